-- Scripts of undos and redos from the end of a script of commands.
-- A law about scripts follows from one about moves, by cases on whether a call was accepted (`one_reached`). Undo and redo
-- share a lemma that takes the `outcome` of the call (`all_moved`).
use Rattle.std.proofs.Common.{◌≡◌, ℕ, zero, suc, Bool, List, [], ◌∷◌, map, replicate, Option, Some, None, Result, Ok, Err, refl, ap, sym, ◌∙◌, ◌⊎◌, inl, inr}
use Rattle.std.specs.Prelude.{option_and_then, IsOk, IsErr, IsTrue, is_ok}
use Rattle.std.specs.List.{list_all}
use Rattle.std.proofs.lemmas.Bool.{and_parts}
use Rattle.mars_session.specs.declared.calls.Call.{Call}
use Rattle.mars_session.specs.declared.calls.Call.TheVariants.{Undo, Redo}
use Rattle.mars_session.specs.declared.calls.Standing.{Standing}
use Rattle.mars_session.specs.declared.calls.Refusal.{Refusal}
use Rattle.mars_session.specs.declared.calls.Refusal.TheVariants.{NothingToUndo, NothingToRedo}
use Rattle.mars_core.specs.State.{State}
use Rattle.mars_session.specs.History.{History, position_of, after_command, undo, redo}
use Rattle.mars_session.specs.Commands.{States}
use Rattle.mars_session.specs.Retention.{Retention, never}
use Rattle.mars_session.specs.Script.{CallKind, Command, Move, kind_of, Outcome, outcome_of, outcome, command_outcome, appended, move_outcome, room_refusal, script, first, rest}
use Rattle.mars_session.specs.Laws.{CallsAreScripts, times, is_command, accepted_count, appended_by, RefusalsChangeNothing, UndoRedoRoundTrip, CommandsAreUndone}
use Rattle.mars_session.proofs.Undoing.{base, base_accepted, Accepted, accepted_call, stays_never, Undone, one_undone}

pub calls_are_scripts : CallsAreScripts
calls_are_scripts old new [] [] h = (rw h refl, rw h refl)
calls_are_scripts old new [] (reply ∷ replies) h = absurd h
calls_are_scripts old new (call ∷ calls) [] h = absurd h
calls_are_scripts old new (call ∷ calls) (reply ∷ replies) h =
    let others = calls_are_scripts h.0 new calls replies h.2 in
    let rest = rw h.1.1 at others.0 in
    (rw (h.1.0, rest) refl, others.1 ∙ h.1.1)

-- A refused call changes neither the history nor the retention.
abbrev Stays : Retention → History → Outcome → Type 0
Stays m h o = IsErr o.reply → (o.history ≡ h) × (o.retention ≡ m)

appended_stays : (m : Retention) (h : History) (states : States) (o : Option Refusal) → Stays m h (appended m h states o)
appended_stays m h states (Some r) e = (refl, refl)
appended_stays m h states None e = absurd (cc)

commanded_stays : (m : Retention) (limit bound : ℕ) (poor : Bool) (h : History) (x : Result States Refusal) → Stays m h (command_outcome m limit bound poor h x)
commanded_stays m limit bound poor h (Err r) e = (refl, refl)
commanded_stays m limit bound poor h (Ok states) e = appended_stays m h states (room_refusal m limit bound poor h) e

moved_stays : (m : Retention) (h : History) (r : Refusal) (x : Option History) → Stays m h (move_outcome m h r x)
moved_stays m h r None e = (refl, refl)
moved_stays m h r (Some to) e = absurd (cc)

kind_stays : (m : Retention) (limit : ℕ) (call : CallKind) (poor : Bool) (h : History) → Stays m h (outcome_of m limit call poor h)
kind_stays m limit (Command bound states) poor h e = commanded_stays m limit (bound h.present.state) poor h (states h.present.state) e
kind_stays m limit (Move refusal move) poor h e = moved_stays m h (refusal m h) (move h) e

pub refusals_change_nothing : RefusalsChangeNothing
refusals_change_nothing m limit call poor h e = kind_stays m limit (kind_of call) poor h e

-- Either no call was accepted and the history is unchanged, or `count` undos and redos lead back and forward again.
abbrev Reached : ℕ → History → History → Type 0
Reached count h end = ((count ≡ 0) × (end ≡ h)) ⊎ Undone count h end

-- If no call after an accepted command was accepted, the end is the history after this command, and no undo is needed.
pub none_after : (n : ℕ) (h end : History) (s : State) (ss : List State) → n ≡ 0 → end ≡ after_command h s ss → Undone n (after_command h s ss) end
none_after n h end s ss z e =
    let here : Option History = Some (after_command h s ss) in
    let same : Some (base (after_command h s ss) []) ≡ here = ap (λ (k : History). Some k) (base_accepted h s ss) in
    rw (z, e) (record { follow = []; back = sym same; again = same })

some_after : (n : ℕ) (h end : History) (s : State) (ss : List State) → Reached n (after_command h s ss) end → Undone (suc n) h end
some_after n h end s ss (inl none) = one_undone n h end s ss (none_after n h end s ss none.0 none.1)
some_after n h end s ss (inr undone) = one_undone n h end s ss undone

-- One more call before the others.
one_reached : (n : ℕ) (r : Result Standing Refusal) (others : List (Result Standing Refusal)) (h k end : History) → (IsOk r → Accepted never n h k) → (IsErr r → k ≡ h)
    → Reached (accepted_count others) k end → Reached (accepted_count (r ∷ others)) h end
one_reached n (Ok standing) others h k end accepts keeps reached =
    let one : Accepted never n h k = accepts refl in
    inr (some_after (accepted_count others) h end one.first one.others (rw one.is at reached))
one_reached n (Err r) others h k end accepts keeps reached = rw (keeps refl) at reached

script_reached : (limit : ℕ) (calls : List Call) (poor : List Bool) (h : History) → IsTrue (list_all is_command (map kind_of calls))
    → Reached (accepted_count (script never limit calls poor h).replies) h (script never limit calls poor h).history
script_reached limit [] poor h c = inl (refl, refl)
script_reached limit (call ∷ calls) poor h c =
    let commands = and_parts (is_command (kind_of call)) (list_all is_command (map kind_of calls)) c in
    let one : Outcome = outcome never limit call (first poor) h in
    let others = (script never limit calls (rest poor) one.history).replies in
    rw (stays_never limit call (first poor) h)
    (one_reached (appended_by (kind_of call) h.present.state) one.reply others h one.history (script never limit calls (rest poor) one.history).history
    (λ ok. accepted_call never limit call (first poor) h commands.0 ok) (λ err. (refusals_change_nothing never limit call (first poor) h err).0)
    (script_reached limit calls (rest poor) one.history commands.1))

-- `n` calls of a move are accepted and lead to `end`.
pub record Leads (m : Retention) (limit n : ℕ) (call : Call) (poor : List Bool) (h end : History) : Type 0 where
  pub accepted : IsTrue (list_all is_ok (script m limit (replicate n call) poor h).replies)
  pub retention : (script m limit (replicate n call) poor h).retention ≡ m
  pub history : (script m limit (replicate n call) poor h).history ≡ end

one_moved : (m : Retention) (limit n : ℕ) (call : Call) (r : Refusal) (move : History → Option History) (poor : List Bool) (h end : History) (x : Option History)
    → outcome m limit call (first poor) h ≡ move_outcome m h r x → option_and_then (times n move) x ≡ Some end
    → ((k : History) → times n move k ≡ Some end → Leads m limit n call (rest poor) k end) → Leads m limit (suc n) call poor h end
one_moved m limit n call r move poor h end None e t more = absurd (cc)
one_moved m limit n call r move poor h end (Some k) e t more =
    let others = more k t in
    let one : Outcome = outcome m limit call (first poor) h in
    let retention : (script one.retention limit (replicate n call) (rest poor) one.history).retention ≡ m = rw e others.retention in
    let history : (script one.retention limit (replicate n call) (rest poor) one.history).history ≡ end = rw e others.history in
    record { accepted = rw e others.accepted; retention = retention; history = history }

pub all_moved : (m : Retention) (limit n : ℕ) (call : Call) (r : Refusal) (move : History → Option History) (poor : List Bool) (h end : History)
    → ((b : Bool) (k : History) → outcome m limit call b k ≡ move_outcome m k r (move k)) → times n move h ≡ Some end → Leads m limit n call poor h end
all_moved m limit zero call r move poor h end is t = record { accepted = refl; retention = refl; history = cc }
all_moved m limit (suc n) call r move poor h end is t =
    one_moved m limit n call r move poor h end (move h) (is (first poor) h) t (λ k u. all_moved m limit n call r move (rest poor) k end is u)

back_and_on : (limit n : ℕ) (up rp : List Bool) (h end : History) → Reached n h end
    → let back = (script never limit (replicate n Undo) up end).history in UndoRedoRoundTrip never limit n up rp h back end × (position_of back ≡ position_of h)
back_and_on limit n up rp h end (inl none) =
    rw (none.0, none.1) (record { undone = refl; retention = refl; state = refl; redone = refl; same = refl }, refl)
back_and_on limit n up rp h end (inr u) =
    let undos = all_moved never limit n Undo NothingToUndo undo up end (base h u.follow) (λ b k. refl) u.back in
    let redos = all_moved never limit n Redo NothingToRedo redo rp (base h u.follow) end (λ b k. refl) u.again in (
      record {
        undone = undos.accepted;
        retention = undos.retention;
        state = ap (λ (k : History). k.present.state) undos.history;
        redone = rw undos.history redos.accepted;
        same = rw undos.history redos.history;
      },
      ap position_of undos.history,
    )

pub commands_are_undone : CommandsAreUndone
commands_are_undone limit calls poor up rp h c =
    back_and_on limit (accepted_count (script never limit calls poor h).replies) up rp h (script never limit calls poor h).history (script_reached limit calls poor h c)
