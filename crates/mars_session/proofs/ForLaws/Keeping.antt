-- A tape is still a tape after every call, whether all places are kept or the oldest places are evicted.
use Rattle.std.proofs.Common.{◌≡◌, ℕ, zero, suc, ◌+◌, ◌-◌, ◌≤◌, Bool, true, false, List, [], ◌∷◌, length, take, Option, None, Some, refl, ap, sym, ◌∙◌, arith, nat_eq, nat_lt, inl, inr, if◌then◌else◌}
use Rattle.std.specs.Prelude.{Result, Ok, Err, nat_le, ◌||◌}
use Rattle.std.proofs.lemmas.Bool.{or_parts}
use Rattle.mars_cell.specs.declared.instruction.Cell.{Cell}
use Rattle.mars_core.specs.State.{State, is_over_of}
use Rattle.mars_core.specs.Turn.{turn_of}
use Rattle.mars_core.specs.Edit.{edit_fault, edited}
use Rattle.mars_core.specs.declared.battle.edit.Edit.{Edit}
use Rattle.mars_core.specs.declared.battle.edit.Edit.TheVariants as edits
use Rattle.mars_core.specs.declared.battle.edit.EditFault.{EditFault}
use Rattle.mars_session.specs.declared.calls.Call.TheVariants.{Step, Run, Until, SetCell, Fill, MoveProcess, Kill, Spawn, Undo, Redo, Goto}
use Rattle.mars_session.specs.declared.calls.Refusal.{Refusal}
use Rattle.mars_session.specs.declared.calls.Refusal.TheVariants.{Count, Address, Over, CyclePassed, NothingToRedo, NotInHistory}
use Rattle.mars_session.specs.History.{Place, History, beginning, append, append_all, cut, marked, after_command, marked_before, undo, marked_after, redo, rewound_from, rewound, first_at_turn_from, goto, first_turns, last_turns}
use Rattle.mars_session.specs.Commands.{command_limit, States, turns_until, stops_at, step_states, run_states, until_bound, until_states, unless_fault, edit_states, fills, cells_between, fill_states}
use Rattle.mars_session.specs.Retention.{Retention, never, retained}
use Rattle.mars_session.specs.declared.calls.Call.{Call}
use Rattle.mars_session.specs.Script.{move_outcome, undo_refusal, room_refusal, appended, command_outcome, outcome, first, rest, Outcome, script}
use Rattle.mars_session.specs.Tapes.{Follows, FollowsAll, Steps, IsTape, IsTapeOf}
use Rattle.mars_session.specs.Laws.{BeginningIsTape, CallsKeepTapes, ScriptsKeepTapes, ScriptsForgetTapes}
use Rattle.mars_session.proofs.Turns.{fault_kept, fault_below}
use Rattle.mars_core.proofs.CallerLemmas.{turn_valid, edit_valid}
use Rattle.mars_core.specs.Validity.{IsValid}
use Rattle.mars_session.proofs.Undoing.{after_append_all, same_most, stays_never}
use Rattle.mars_session.proofs.ForLaws.Valid.{follows_valid}

-- Each state follows the one before it.
abbrev Chain : State → List State → Type 0
Chain s [] = Unit {0}
Chain s (t ∷ ts) = Follows s t × Chain t ts

-- The states that a command reaches follow one another.
abbrev Reached : State → Result States Refusal → Type 0
Reached s (Err r) = Unit {0}
Reached s (Ok states) = Follows s states.0 × Chain states.0 states.1

-- A property of both branches holds for the conditional.
reached_if : (s : State) (b : Bool) (x y : Result States Refusal) → (b ≡ true → Reached s x) → (b ≡ false → Reached s y) → Reached s (if b then x else y)
reached_if s true x y h k = h refl
reached_if s false x y h k = k refl

one_turn : (s : State) → is_over_of s ≡ false → Follows s (turn_of s)
one_turn s e = inl (e, refl)

runs_on : (cycle : Option ℕ) (s : State) → stops_at cycle s ≡ false → is_over_of s ≡ false
runs_on None s e = e
runs_on (Some c) s e = (or_parts (is_over_of s) (nat_eq s.cycle c) e).0

chain_if : (s : State) (b : Bool) (ts : List State) → (b ≡ false → Chain s ts) → Chain s (if b then [] else ts)
chain_if s true ts h = tt
chain_if s false ts h = h refl

turns_chain : (cycle : Option ℕ) (n : ℕ) (s : State) → Chain s (turns_until (stops_at cycle) n s)
turns_chain cycle zero s = tt
turns_chain cycle (suc n) s =
    chain_if s (stops_at cycle s) (turn_of s ∷ turns_until (stops_at cycle) n (turn_of s))
    (λ e. (one_turn s (runs_on cycle s e), turns_chain cycle n (turn_of s)))

step_reached : (s : State) → Reached s (step_states s)
step_reached s = reached_if s (is_over_of s) (Err Over) (Ok (turn_of s, [])) (λ e. tt) (λ e. (one_turn s e, tt))

run_reached : (n : ℕ) (s : State) → Reached s (run_states n s)
run_reached n s =
    let turns : Result States Refusal = Ok (turn_of s, turns_until (stops_at None) (n - 1) (turn_of s)) in
    reached_if s (nat_eq n 0 || nat_lt command_limit n) (Err Count) (if is_over_of s then Err Over else turns) (λ e. tt)
    (λ e. reached_if s (is_over_of s) (Err Over) turns (λ f. tt) (λ f. (one_turn s f, turns_chain None (n - 1) (turn_of s))))

until_reached : (c : ℕ) (s : State) → Reached s (until_states c s)
until_reached c s =
    let turns : Result States Refusal = Ok (turn_of s, turns_until (stops_at (Some c)) (until_bound c s - 1) (turn_of s)) in
    let passed : Result States Refusal = if nat_le c s.cycle then Err (CyclePassed s.cycle) else turns in
    reached_if s (nat_lt command_limit (until_bound c s)) (Err Count) (if is_over_of s then Err Over else passed) (λ e. tt)
    (λ e. reached_if s (is_over_of s) (Err Over) passed (λ f. tt)
    (λ f. reached_if s (nat_le c s.cycle) (Err (CyclePassed s.cycle)) turns (λ g. tt) (λ g. (one_turn s f, turns_chain (Some c) (until_bound c s - 1) (turn_of s)))))

reached_unless : (s : State) (fault : Option EditFault) (states : States) → (fault ≡ None → Reached s (Ok states)) → Reached s (unless_fault fault states)
reached_unless s None states h = h refl
reached_unless s (Some f) states h = tt

edit_reached : (e : Edit) (s : State) → Reached s (edit_states e s)
edit_reached e s = reached_unless s (edit_fault s e) (edited s e, []) (λ none. (inr (e, none, refl), tt))

fills_chain : (n address last : ℕ) (cell : Cell) (s : State) → address + n ≤ last + 1 → edit_fault s (edits.SetCell last cell) ≡ None → Chain s (fills n address cell s)
fills_chain zero address last cell s l none = tt
fills_chain (suc n) address last cell s l none =
    let e : Edit = edits.SetCell address cell in
    (inr (e, fault_below s address last cell (omega (arith, l)) none, refl), fills_chain n (address + 1) last cell (edited s e) (omega (arith, l)) (fault_kept s e last cell ∙ none))

from_to : (from to : ℕ) → nat_lt to from ≡ false → from ≤ to
from_to from to e = grind (arith)

fill_reached : (from to : ℕ) (cell : Cell) (s : State) → Reached s (fill_states from to cell s)
fill_reached from to cell s =
    let e : Edit = edits.SetCell from cell in
    let one : State = edited s e in
    let states : States = (one, fills (to - from) (from + 1) cell one) in
    let judged : Result States Refusal = unless_fault (edit_fault s (edits.SetCell to cell)) states in
    reached_if s (nat_lt command_limit (cells_between from to)) (Err Count) (if nat_lt to from then Err Address else judged) (λ f. tt)
    (λ f. reached_if s (nat_lt to from) (Err Address) judged (λ g. tt)
    (λ g. let l : from ≤ to = from_to from to g in
    reached_unless s (edit_fault s (edits.SetCell to cell)) states
    (λ none. (inr (e, fault_below s from to cell l none, refl), fills_chain (to - from) (from + 1) to cell one (omega (arith, l)) (fault_kept s e to cell ∙ none)))))

-- The first place of a history.
first_place : List Place → Place → Place
first_place [] p = p
first_place (b ∷ before) p = first_place before b

first_rewound : (before : List Place) (p : Place) (after : List Place) → (rewound_from before p after).present ≡ first_place before p
unfolding first_place
first_rewound [] p after = refl
first_rewound (b ∷ before) p after = first_rewound before b (p ∷ after)

first_marked : (before : List Place) (p : Place) (after : List Place) → (first_place before p).mark ≡ true → (rewound_from before p after).present.mark ≡ true
first_marked before p after e = ap (λ (q : Place). q.mark) (first_rewound before p after) ∙ e

-- The places up to the present one follow one another, and the first place is marked.
record Begun (h : History) : Type 0 where
  before : FollowsAll h.before h.present.state
  first : (first_place h.before h.present).mark ≡ true

begun_marked_from : (before : List Place) (p : Place) → (first_place before p).mark ≡ true → (first_place before (record { state = p.state; mark = true })).mark ≡ true
unfolding first_place
begun_marked_from [] p e = refl
begun_marked_from (b ∷ before) p e = e

begun_marked : (h : History) → Begun h → Begun (marked h)
begun_marked h b = record { before = b.before; first = begun_marked_from h.before h.present b.first }

begun_append : (h : History) (s : State) → Begun h → Follows h.present.state s → Begun (append h s)
unfolding first_place
begun_append h s b f = record { before = (f, b.before); first = b.first }

begun_append_all : (h : History) (ss : List State) → Begun h → Chain h.present.state ss → Begun (append_all h ss)
begun_append_all h [] b c = b
begun_append_all h (s ∷ ss) b c = begun_append_all (append h s) ss (begun_append h s b c.0) c.1

tape_begun : (h : History) → IsTape h → Begun h
tape_begun h t = record { before = t.steps.before; first = ap (λ (p : Place). p.mark) (sym (first_rewound h.before h.present h.after)) ∙ t.first }

-- If no place follows, and the present place is marked, the history is a tape.
begun_tape : (h : History) → Begun h → h.after ≡ [] → h.present.mark ≡ true → IsTape h
begun_tape h b none m = record {
  steps = record { before = b.before; after = rw none tt };
  first = first_marked h.before h.present h.after b.first;
  last = rw none m;
}

accepted_tape : (h : History) (s : State) (ss : List State) → IsTape h → Follows h.present.state s → Chain s ss → IsTape (after_command h s ss)
accepted_tape h s ss t f c =
    let start : Begun (cut (marked h)) = (let b = begun_marked h (tape_begun h t) in record { before = b.before; first = b.first }) in
    let k : History = append_all (append (cut (marked h)) s) ss in
    begun_tape (marked k) (begun_marked k (begun_append_all (append (cut (marked h)) s) ss (begun_append (cut (marked h)) s start f) c))
    (after_append_all (append (cut (marked h)) s) ss refl) refl

-- After appending states, the places up to the present one still follow one another.
before_append_all : (h : History) (ss : List State) → FollowsAll h.before h.present.state → Chain h.present.state ss → FollowsAll (append_all h ss).before (append_all h ss).present.state
before_append_all h [] b c = b
before_append_all h (s ∷ ss) b c = before_append_all (append h s) ss (c.0, b) c.1

valid_here : (before : List Place) (s : State) → FollowsAll before s → IsValid s
valid_here [] s v = v
valid_here (b ∷ before) s f = follows_valid turn_valid edit_valid b.state s f.0 (valid_here before b.state f.1)

-- The places that are kept still follow one another.
before_kept : (k : ℕ) (before : List Place) (s : State) → FollowsAll before s → FollowsAll (take k before) s
before_kept zero before s f = valid_here before s f
before_kept (suc k) [] s f = f
before_kept (suc k) (b ∷ before) s f = (f.0, before_kept k before b.state f.1)

few_kept : (k : ℕ) (before : List Place) → length (take k before) ≤ k
few_kept zero before = omega arith
few_kept (suc k) [] = omega arith
few_kept (suc k) (b ∷ before) = omega (arith, few_kept k before)

accepted_few : (k : ℕ) (h : History) (s : State) (ss : List State) → IsTapeOf k h → Follows h.present.state s → Chain s ss → IsTapeOf k (retained (Some k) (after_command h s ss))
accepted_few k h s ss t f c =
    let start : History = append (cut (marked h)) s in
    let end : History = append_all start ss in
    let none : end.after ≡ [] = after_append_all start ss refl in
    record {
      steps = record { before = before_kept k end.before end.present.state (before_append_all start ss (f, t.steps.before) c); after = rw none tt };
      last = rw none refl;
      within = rw none (omega (arith, few_kept k end.before));
    }

-- Accepted commands, and steps back and forward, preserve the property `P`.
record Keeps (m : Retention) (P : History → Type 0) : Type 0 where
  accepts : (h : History) (s : State) (ss : List State) → P h → Follows h.present.state s → Chain s ss → P (retained m.most (after_command h s ss))
  back : (b : Place) (before : List Place) (p : Place) (after : List Place) → P (record { before = b ∷ before; present = p; after = after }) → P (record { before = before; present = b; after = p ∷ after })
  on : (before : List Place) (p a : Place) (after : List Place) → P (record { before = before; present = p; after = a ∷ after }) → P (record { before = p ∷ before; present = a; after = after })

-- The history that a move found has the property `P`.
abbrev Found : (History → Type 0) → Option History → Type 0
Found P None = Unit {0}
Found P (Some to) = P to

found_if : (P : History → Type 0) (b : Bool) (x y : Option History) → Found P x → Found P y → Found P (if b then x else y)
found_if P true x y h k = h
found_if P false x y h k = k

module _ (m : Retention) (P : History → Type 0) (keeps : Keeps m P) where
  appended_keeps : (h : History) (states : States) (o : Option Refusal) → P h → Reached h.present.state (Ok states) → P (appended m h states o).history
  appended_keeps h states (Some r) t c = t
  appended_keeps h states None t c = keeps.accepts h states.0 states.1 t c.0 c.1

  commanded_keeps : (limit bound : ℕ) (poor : Bool) (h : History) (x : Result States Refusal) → P h → Reached h.present.state x → P (command_outcome m limit bound poor h x).history
  commanded_keeps limit bound poor h (Err r) t c = t
  commanded_keeps limit bound poor h (Ok states) t c = appended_keeps h states (room_refusal m limit bound poor h) t c

  edit_keeps : (limit : ℕ) (poor : Bool) (h : History) (e : Edit) → P h → P (command_outcome m limit 1 poor h (edit_states e h.present.state)).history
  edit_keeps limit poor h e t = commanded_keeps limit 1 poor h (edit_states e h.present.state) t (edit_reached e h.present.state)

  undo_found : (before : List Place) (p : Place) (after : List Place) → P (record { before = before; present = p; after = after }) → Found P (marked_before before p after)
  undo_found [] p after t = tt
  undo_found (b ∷ before) p after t =
      found_if P b.mark (Some (record { before = before; present = b; after = p ∷ after })) (marked_before before b (p ∷ after))
      (keeps.back b before p after t) (undo_found before b (p ∷ after) (keeps.back b before p after t))

  redo_found : (before : List Place) (p : Place) (after : List Place) → P (record { before = before; present = p; after = after }) → Found P (marked_after before p after)
  redo_found before p [] t = tt
  redo_found before p (a ∷ after) t =
      found_if P a.mark (Some (record { before = p ∷ before; present = a; after = after })) (marked_after (p ∷ before) a after)
      (keeps.on before p a after t) (redo_found (p ∷ before) a after (keeps.on before p a after t))

  rewound_keeps : (before : List Place) (p : Place) (after : List Place) → P (record { before = before; present = p; after = after }) → P (rewound_from before p after)
  rewound_keeps [] p after t = t
  rewound_keeps (b ∷ before) p after t = rewound_keeps before b (p ∷ after) (keeps.back b before p after t)

  goto_found : (turns : ℕ) (before : List Place) (p : Place) (after : List Place) → P (record { before = before; present = p; after = after }) → Found P (first_at_turn_from turns before p after)
  goto_found turns before p [] t = found_if P (nat_eq p.state.turns turns) (Some (record { before = before; present = p; after = [] })) None t tt
  goto_found turns before p (a ∷ after) t =
      found_if P (nat_eq p.state.turns turns) (Some (record { before = before; present = p; after = a ∷ after })) (first_at_turn_from turns (p ∷ before) a after)
      t (goto_found turns (p ∷ before) a after (keeps.on before p a after t))

  moved_keeps : (h : History) (r : Refusal) (o : Option History) → P h → Found P o → P (move_outcome m h r o).history
  moved_keeps h r None t f = t
  moved_keeps h r (Some to) t f = f

  calls_keep : (limit : ℕ) (call : Call) (poor : Bool) (h : History) → P h → P (outcome m limit call poor h).history
  calls_keep limit Step poor h t = commanded_keeps limit 1 poor h (step_states h.present.state) t (step_reached h.present.state)
  calls_keep limit (Run n) poor h t = commanded_keeps limit n poor h (run_states n h.present.state) t (run_reached n h.present.state)
  calls_keep limit (Until c) poor h t = commanded_keeps limit (until_bound c h.present.state) poor h (until_states c h.present.state) t (until_reached c h.present.state)
  calls_keep limit (Fill from to cell) poor h t =
      commanded_keeps limit (cells_between from to) poor h (fill_states from to cell h.present.state) t (fill_reached from to cell h.present.state)
  calls_keep limit (SetCell address cell) poor h t = edit_keeps limit poor h (edits.SetCell address cell) t
  calls_keep limit (MoveProcess w i address) poor h t = edit_keeps limit poor h (edits.MoveProcess w i address) t
  calls_keep limit (Kill w i) poor h t = edit_keeps limit poor h (edits.KillProcess w i) t
  calls_keep limit (Spawn w address) poor h t = edit_keeps limit poor h (edits.Spawn w address) t
  calls_keep limit Undo poor h t = moved_keeps h (undo_refusal m) (undo h) t (undo_found h.before h.present h.after t)
  calls_keep limit Redo poor h t = moved_keeps h NothingToRedo (redo h) t (redo_found h.before h.present h.after t)
  calls_keep limit (Goto n) poor h t =
      let r : History = rewound h in
      moved_keeps h (NotInHistory (first_turns h) (last_turns h)) (goto n h) t
      (goto_found n r.before r.present r.after (rewound_keeps h.before h.present h.after t))

steps_back : (b : Place) (before : List Place) (p : Place) (after : List Place) → Steps (record { before = b ∷ before; present = p; after = after }) → Steps (record { before = before; present = b; after = p ∷ after })
steps_back b before p after t = record { before = t.before.1; after = (t.before.0, t.after) }

steps_on : (before : List Place) (p a : Place) (after : List Place) → Steps (record { before = before; present = p; after = a ∷ after }) → Steps (record { before = p ∷ before; present = a; after = after })
steps_on before p a after t = record { before = (t.after.0, t.before); after = t.after.1 }

pub beginning_is_tape : BeginningIsTape
beginning_is_tape s v =
    let steps : Steps (beginning s) = record { before = v; after = tt } in
    (record { steps = steps; first = refl; last = refl }, λ k. record { steps = steps; last = refl; within = omega arith })

tapes_kept : Keeps never IsTape
tapes_kept = record {
  accepts = accepted_tape;
  back = λ b before p after t. record { steps = steps_back b before p after t.steps; first = t.first; last = t.last };
  on = λ before p a after t. record { steps = steps_on before p a after t.steps; first = t.first; last = t.last };
}

few_places : (k : ℕ) (m : Retention) → m.most ≡ Some k → Keeps m (IsTapeOf k)
few_places k m e = record {
  accepts = λ h s ss t f c. rw e (accepted_few k h s ss t f c);
  back = λ b before p after t. record { steps = steps_back b before p after t.steps; last = t.last; within = omega (arith, t.within) };
  on = λ before p a after t. record { steps = steps_on before p a after t.steps; last = t.last; within = omega (arith, t.within) };
}

pub calls_keep_tapes : CallsKeepTapes
calls_keep_tapes limit call poor h t = calls_keep never IsTape tapes_kept limit call poor h t

scripts_forget : (k limit : ℕ) (m : Retention) (calls : List Call) (poor : List Bool) (h : History) → m.most ≡ Some k → IsTapeOf k h → IsTapeOf k (script m limit calls poor h).history
scripts_forget k limit m [] poor h e t = t
scripts_forget k limit m (call ∷ calls) poor h e t =
    let one : Outcome = outcome m limit call (first poor) h in
    scripts_forget k limit one.retention calls (rest poor) one.history (same_most m limit call (first poor) h ∙ e)
    (calls_keep m (IsTapeOf k) (few_places k m e) limit call (first poor) h t)

pub scripts_forget_tapes : ScriptsForgetTapes
scripts_forget_tapes k forgotten limit calls poor h t = scripts_forget k limit (record { most = Some k; forgotten = forgotten }) calls poor h refl t

pub scripts_keep_tapes : ScriptsKeepTapes
scripts_keep_tapes limit [] poor h t = t
scripts_keep_tapes limit (call ∷ calls) poor h t =
    rw (stays_never limit call (first poor) h)
    (scripts_keep_tapes limit calls (rest poor) (outcome never limit call (first poor) h).history (calls_keep_tapes limit call (first poor) h t))
