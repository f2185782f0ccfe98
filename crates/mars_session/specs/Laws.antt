-- The laws: theorems about the definitions. They say what undo and redo restore, what refusals leave, which places
-- commands and moves lead to, and what holds along a tape.
use Rattle.std.specs.Prelude.{All, ◌≡◌, ◌≢◌, ◌≤◌, ◌<◌, ◌+◌, ◌↔◌, ◌⊎◌, ◌==◌, ◌++◌, ℕ, zero, suc, Bool, true, false, List, [], ◌∷◌, length, map, take, replicate, Option, None, Some, Result, Ok, Err, is_ok, IsTrue, IsOk, IsErr, IsSome, IsSomeAnd, option_and_then, option_map}
use Rattle.std.specs.List.{filter, list_all}
use Rattle.mars_core.specs.State.{State}
use Rattle.mars_core.specs.Validity.{IsValid}
use Rattle.mars_session.specs.declared.calls.Call.{Call}
use Rattle.mars_session.specs.declared.calls.Call.TheVariants.{Undo, Redo}
use Rattle.mars_session.specs.declared.calls.Standing.{Standing}
use Rattle.mars_session.specs.declared.calls.Refusal.{Refusal}
use Rattle.mars_session.specs.declared.calls.Refusal.TheVariants.{JournalFull, OutOfMemory}
use Rattle.mars_session.specs.History.{Place, History, beginning, places, position_of, last_of, after_command, undo, redo, goto, first_turns, last_turns}
use Rattle.mars_session.specs.Retention.{Retention, never}
use Rattle.mars_session.specs.Commands.{States, in_cycle, until_states}
use Rattle.mars_session.specs.Tapes.{Steps, IsTape, IsTapeOf, RisesFrom}
use Rattle.mars_session.specs.Script.{SessionValue, CallKind, Command, Move, kind_of, outcome, is_poor, CallsMeetSpec, script, first, rest}

-- If calls are executed one after another, the replies, the final history and the retention are those of `script`, in
-- which an allocation fails exactly for the calls with the reply `OutOfMemory`. The limit stays.
abbrev pub CallsAreScripts : Type 0
CallsAreScripts = (old new : SessionValue) (calls : List Call) (replies : List (Result Standing Refusal)) → CallsMeetSpec old calls replies new
    → (script old.state.retention old.state.limit calls (map is_poor replies) old.state.history
    ≡ record { history = new.state.history; retention = new.state.retention; replies = replies })
    × (new.state.limit ≡ old.state.limit)

-- The history after the move `move` is executed `n` times, or None if one of these moves has no target.
abbrev pub times : ℕ → (History → Option History) → History → Option History
times zero move h = Some h
times (suc n) move h = option_and_then (times n move) (move h)

-- The call is a command, not a move.
abbrev pub is_command : CallKind → Bool
is_command (Command bound states) = true
is_command (Move refusal move) = false

-- All calls, executed from `h` on while all places are kept, are commands, and each is accepted.
abbrev pub AllAccepted : ℕ → List Call → List Bool → History → Type 0
AllAccepted limit [] poor h = Unit {0}
AllAccepted limit (call ∷ calls) poor h =
    IsTrue (is_command (kind_of call)) × IsOk (outcome never limit call (first poor) h).reply
    × AllAccepted limit calls (rest poor) (outcome never limit call (first poor) h).history

-- If all places are kept: after accepted commands, as many undos are accepted, and restore the state and the position.
abbrev pub UndosGiveBack : Type 0
UndosGiveBack = (limit : ℕ) (calls : List Call) (poor : List Bool) (h : History) → AllAccepted limit calls poor h
    → IsSomeAnd (times (length calls) undo (script never limit calls poor h).history)
    (λ back. (back.present.state ≡ h.present.state) × (position_of back ≡ position_of h))

-- If all places are kept: after accepted commands and as many undos, as many redos are accepted, and restore the history after the
-- commands exactly.
abbrev pub RedosGiveAgain : Type 0
RedosGiveAgain = (limit : ℕ) (calls : List Call) (poor : List Bool) (h back : History) → AllAccepted limit calls poor h
    → times (length calls) undo (script never limit calls poor h).history ≡ Some back
    → times (length calls) redo back ≡ Some (script never limit calls poor h).history

-- A refused call changes nothing, also if an allocation failed.
abbrev pub RefusalsChangeNothing : Type 0
RefusalsChangeNothing = (m : Retention) (limit : ℕ) (call : Call) (poor : Bool) (h : History) → IsErr (outcome m limit call poor h).reply
    → ((outcome m limit call poor h).history ≡ h) × ((outcome m limit call poor h).retention ≡ m)

-- If the tape evicts places, no call is refused because of the limit or of memory.
abbrev pub NeverFull : Type 0
NeverFull = (k : ℕ) (forgotten : Bool) (limit : ℕ) (call : Call) (poor : Bool) (h : History)
    → let reply = (outcome (record { most = Some k; forgotten = forgotten }) limit call poor h).reply in
    ((room : ℕ) → reply ≢ Err (JournalFull room)) × (reply ≢ Err OutOfMemory)

-- The number of calls that were accepted.
abbrev pub accepted_count : List (Result Standing Refusal) → ℕ
accepted_count replies = length (filter is_ok replies)

-- From the history `end`, `count` calls of Undo are all accepted and lead to the state of `h`; then `count` calls of Redo are
-- all accepted and lead back to `end` exactly.
pub record UndoRedoRoundTrip (m : Retention) (limit count : ℕ) (undo_poor redo_poor : List Bool) (h back end : History) : Type 0 where
  pub undone : IsTrue (list_all is_ok (script m limit (replicate count Undo) undo_poor end).replies)
  pub retention : (script m limit (replicate count Undo) undo_poor end).retention ≡ m
  pub state : back.present.state ≡ h.present.state
  pub redone : IsTrue (list_all is_ok (script m limit (replicate count Redo) redo_poor back).replies)
  pub same : (script m limit (replicate count Redo) redo_poor back).history ≡ end

-- If all places are kept: after any list of commands, some of which may be refused, as many calls of Undo as commands were
-- accepted lead back, and as many calls of Redo lead forward again. The position is restored, too.
abbrev pub CommandsAreUndone : Type 0
CommandsAreUndone = (limit : ℕ) (calls : List Call) (poor undo_poor redo_poor : List Bool) (h : History) → IsTrue (list_all is_command (map kind_of calls))
    → let count = accepted_count (script never limit calls poor h).replies in
    let end = (script never limit calls poor h).history in
    let back = (script never limit (replicate count Undo) undo_poor end).history in
    UndoRedoRoundTrip never limit count undo_poor redo_poor h back end × (position_of back ≡ position_of h)

-- The number of states that a command reaches; 0 if it is refused.
abbrev pub count_of : Result States Refusal → ℕ
count_of (Err r) = 0
count_of (Ok states) = suc (length states.1)

-- The number of places that a call appends if it is accepted.
abbrev pub appended_by : CallKind → State → ℕ
appended_by (Command bound states) s = count_of (states s)
appended_by (Move refusal move) s = 0

-- The number of places, evicted places included, that calls append together if none is refused for lack of room.
abbrev pub total_appended : Retention → ℕ → List Call → List Bool → History → ℕ
total_appended m limit [] poor h = 0
total_appended m limit (call ∷ calls) poor h =
    let one = outcome m limit call (first poor) h in
    appended_by (kind_of call) h.present.state + total_appended one.retention limit calls (rest poor) one.history

-- If `k` places are kept beside the last one, commands that append at most `k` places together can be undone and redone, as in
-- `CommandsAreUndone`. The position may be another one, because places may be evicted.
abbrev pub FewCommandsAreUndone : Type 0
FewCommandsAreUndone = (k : ℕ) (forgotten : Bool) (limit : ℕ) (calls : List Call) (poor undo_poor redo_poor : List Bool) (h : History) → IsTrue (list_all is_command (map kind_of calls))
    → let m : Retention = record { most = Some k; forgotten = forgotten } in
    total_appended m limit calls poor h ≤ k
    → let count = accepted_count (script m limit calls poor h).replies in
    let end = (script m limit calls poor h).history in
    let after = (script m limit calls poor h).retention in
    let back = (script after limit (replicate count Undo) undo_poor end).history in
    UndoRedoRoundTrip after limit count undo_poor redo_poor h back end

-- From a marked place, redo after an accepted undo restores the history.
abbrev pub RedoAfterUndo : Type 0
RedoAfterUndo = (h back : History) → h.present.mark ≡ true → undo h ≡ Some back → redo back ≡ Some h

-- A history with only one place, marked and with the valid state `s`, is a tape, however many places are kept.
abbrev pub BeginningIsTape : Type 0
BeginningIsTape = (s : State) → IsValid s → IsTape (beginning s) × ((k : ℕ) → IsTapeOf k (beginning s))

-- If all places are kept, a tape is still a tape after every call, accepted or refused.
abbrev pub CallsKeepTapes : Type 0
CallsKeepTapes = (limit : ℕ) (call : Call) (poor : Bool) (h : History) → IsTape h → IsTape (outcome never limit call poor h).history

-- If all places are kept, a tape is still a tape after every list of calls.
abbrev pub ScriptsKeepTapes : Type 0
ScriptsKeepTapes = (limit : ℕ) (calls : List Call) (poor : List Bool) (h : History) → IsTape h → IsTape (script never limit calls poor h).history

-- If all places are kept, every call keeps the number of places after the first one of a tape within `limit`.
abbrev pub CallsKeepLimit : Type 0
CallsKeepLimit = (limit : ℕ) (call : Call) (poor : Bool) (h : History) → IsTape h → last_of h ≤ limit → last_of (outcome never limit call poor h).history ≤ limit

-- If `k` places are kept beside the last one, a tape with at most `k` places before the last one is still one after every list of calls.
abbrev pub ScriptsForgetTapes : Type 0
ScriptsForgetTapes = (k : ℕ) (forgotten : Bool) (limit : ℕ) (calls : List Call) (poor : List Bool) (h : History)
    → IsTapeOf k h → IsTapeOf k (script (record { most = Some k; forgotten = forgotten }) limit calls poor h).history

-- Each place of a tape has a valid state.
abbrev pub PlacesAreValid : Type 0
PlacesAreValid = (h : History) → Steps h → All (λ (p : Place). IsValid p.state) (places h)

-- `number` never falls from place to place, and rises by at most one.
abbrev pub GrowsByAtMostOne : (State → ℕ) → List Place → Type 0
GrowsByAtMostOne number [] = Unit {0}
GrowsByAtMostOne number (p ∷ ps) = RisesFrom number p.state ps

-- The numbers of turns and of cycles never fall along a tape, and rise by at most one from place to place.
abbrev pub TurnsAndCyclesRise : Type 0
TurnsAndCyclesRise = (h : History) → Steps h → GrowsByAtMostOne (λ (s : State). s.turns) (places h) × GrowsByAtMostOne (λ (s : State). s.cycle) (places h)

-- A tape has a place with `t` turns exactly if its first place has at most and its last place at least `t` turns.
abbrev pub GotoBetween : Type 0
GotoBetween = (h : History) (t : ℕ) → Steps h → IsSome (goto t h) ↔ ((first_turns h ≤ t) × (t ≤ last_turns h))

-- The list has a place with number `i`, counted from 0, and this place passes `test`.
abbrev pub holds_at : (Place → Bool) → List Place → ℕ → Bool
holds_at test [] i = false
holds_at test (p ∷ ps) zero = test p
holds_at test (p ∷ ps) (suc i) = holds_at test ps i

-- The option is the greatest number below `n` for which `passes` is true, or None if there is none.
abbrev pub IsGreatestBelow : (ℕ → Bool) → ℕ → Option ℕ → Type 0
IsGreatestBelow passes n None = (k : ℕ) → k < n → passes k ≡ false
IsGreatestBelow passes n (Some i) = (i < n) × (passes i ≡ true) × ((k : ℕ) → i < k → k < n → passes k ≡ false)

-- The option is the least number from `n` on and below `m` for which `passes` is true, or None if there is none.
abbrev pub IsLeastBetween : (ℕ → Bool) → ℕ → ℕ → Option ℕ → Type 0
IsLeastBetween passes n m None = (k : ℕ) → n ≤ k → k < m → passes k ≡ false
IsLeastBetween passes n m (Some i) = (n ≤ i) × (i < m) × (passes i ≡ true) × ((k : ℕ) → n ≤ k → k < i → passes k ≡ false)

-- A move leads to a history with the same places.
abbrev pub MovesKeepPlaces : Type 0
MovesKeepPlaces = (h to : History) → ((undo h ≡ Some to) ⊎ ((redo h ≡ Some to) ⊎ ((t : ℕ) × (goto t h ≡ Some to)))) → places to ≡ places h

-- Undo leads to the nearest marked place before the present one.
abbrev pub UndoFindsNearest : Type 0
UndoFindsNearest = (h : History) → IsGreatestBelow (holds_at (λ (p : Place). p.mark) (places h)) (position_of h) (option_map position_of (undo h))

-- Redo leads to the nearest marked place after the present one.
abbrev pub RedoFindsNearest : Type 0
RedoFindsNearest = (h : History) → IsLeastBetween (holds_at (λ (p : Place). p.mark) (places h)) (position_of h + 1) (length (places h)) (option_map position_of (redo h))

-- Goto leads to the first place with `t` turns.
abbrev pub GotoFindsFirst : Type 0
GotoFindsFirst = (h : History) (t : ℕ) → IsLeastBetween (holds_at (λ (p : Place). p.state.turns == t) (places h)) 0 (length (places h)) (option_map position_of (goto t h))

-- The places that a command appends. Only the last one is marked.
abbrev pub command_places : State → List State → List Place
command_places s [] = record { state = s; mark = true } ∷ []
command_places s (t ∷ ss) = record { state = s; mark = false } ∷ command_places t ss

-- An accepted command keeps the places before the present one, marks the present one, and appends its own places; the last one
-- becomes the present one.
abbrev pub CommandsAppend : Type 0
CommandsAppend = (h : History) (s : State) (ss : List State)
    → (places (after_command h s ss) ≡ take (position_of h) (places h) ++ record { state = h.present.state; mark = true } ∷ command_places s ss)
    × (position_of (after_command h s ss) + 1 ≡ length (places (after_command h s ss)))

-- The last of the states that a command reaches.
abbrev pub last_state : State → List State → State
last_state s [] = s
last_state s (t ∷ ss) = last_state t ss

-- After an accepted `until c`, the battle is in cycle `c` or is over.
abbrev pub UntilArrives : Type 0
UntilArrives = (c : ℕ) (s : State) (states : States) → IsValid s → until_states c s ≡ Ok states → IsTrue (in_cycle c (last_state states.0 states.1))
