-- If the tape evicts places, no call is refused because of the limit or of memory.
use Rattle.std.proofs.Common.{◌≡◌, ℕ, ◌+◌, ◌-◌, Bool, true, false, [], Option, None, Some, Result, Ok, Err, refl, ap, sym, ◌∙◌, nat_eq, nat_lt, if◌then◌else◌}
use Rattle.std.specs.Prelude.{nat_le, ◌||◌}
use Rattle.mars_cell.specs.declared.instruction.Cell.{Cell}
use Rattle.mars_core.specs.State.{State, is_over_of}
use Rattle.mars_core.specs.Turn.{turn_of}
use Rattle.mars_core.specs.Edit.{edit_fault, edited}
use Rattle.mars_core.specs.declared.battle.edit.Edit.{Edit}
use Rattle.mars_core.specs.declared.battle.edit.Edit.TheVariants as edits
use Rattle.mars_core.specs.declared.battle.edit.EditFault.{EditFault}
use Rattle.mars_core.specs.declared.battle.edit.EditFault.TheVariants as faults
use Rattle.mars_session.specs.declared.calls.Call.{Call}
use Rattle.mars_session.specs.declared.calls.Call.TheVariants.{Step, Run, Until, SetCell, Fill, MoveProcess, Kill, Spawn, Undo, Redo, Goto}
use Rattle.mars_session.specs.declared.calls.Standing.{Standing}
use Rattle.mars_session.specs.declared.calls.Refusal.{Refusal}
use Rattle.mars_session.specs.declared.calls.Refusal.TheVariants.{Count, Address, Over, CyclePassed, NothingToUndo, NothingToRedo, NotInHistory, JournalFull, OutOfMemory, Forgotten}
use Rattle.mars_session.specs.History.{History, undo, redo, goto, first_turns, last_turns}
use Rattle.mars_session.specs.Retention.{Retention}
use Rattle.mars_session.specs.Commands.{command_limit, States, turns_until, stops_at, step_states, run_states, until_bound, until_states, refusal_of, unless_fault, edit_states, fills, cells_between, fill_states}
use Rattle.mars_session.specs.Script.{outcome, command_outcome, move_outcome, undo_refusal}
use Rattle.mars_session.specs.Laws.{NeverFull}

-- The refusal is `JournalFull` or `OutOfMemory`.
abbrev lacks_room : Refusal → Bool
lacks_room (JournalFull room) = true
lacks_room OutOfMemory = true
lacks_room _ = false

abbrev is_lacking_room : Result Standing Refusal → Bool
is_lacking_room (Ok standing) = false
is_lacking_room (Err r) = lacks_room r

-- A command's own refusal is neither `JournalFull` nor `OutOfMemory`.
abbrev IsOwnRefusal : Result States Refusal → Type 0
IsOwnRefusal (Ok states) = Unit {0}
IsOwnRefusal (Err r) = lacks_room r ≡ false

own_if : (b : Bool) (x y : Result States Refusal) → IsOwnRefusal x → IsOwnRefusal y → IsOwnRefusal (if b then x else y)
own_if true x y h k = h
own_if false x y h k = k

step_own : (s : State) → IsOwnRefusal (step_states s)
step_own s = own_if (is_over_of s) (Err Over) (Ok (turn_of s, [])) refl tt

run_own : (n : ℕ) (s : State) → IsOwnRefusal (run_states n s)
run_own n s =
    let turns : Result States Refusal = Ok (turn_of s, turns_until (stops_at None) (n - 1) (turn_of s)) in
    own_if (nat_eq n 0 || nat_lt command_limit n) (Err Count) (if is_over_of s then Err Over else turns) refl (own_if (is_over_of s) (Err Over) turns refl tt)

until_own : (c : ℕ) (s : State) → IsOwnRefusal (until_states c s)
until_own c s =
    let turns : Result States Refusal = Ok (turn_of s, turns_until (stops_at (Some c)) (until_bound c s - 1) (turn_of s)) in
    let passed : Result States Refusal = if nat_le c s.cycle then Err (CyclePassed s.cycle) else turns in
    own_if (nat_lt command_limit (until_bound c s)) (Err Count) (if is_over_of s then Err Over else passed) refl
    (own_if (is_over_of s) (Err Over) passed refl (own_if (nat_le c s.cycle) (Err (CyclePassed s.cycle)) turns refl tt))

fault_own : (fault : EditFault) → lacks_room (refusal_of fault) ≡ false
fault_own faults.Address = refl
fault_own faults.FieldOutside = refl
fault_own faults.NoSuchWarrior = refl
fault_own faults.NoSuchProcess = refl
fault_own faults.WarriorDead = refl
fault_own faults.QueueFull = refl

unless_own : (fault : Option EditFault) (states : States) → IsOwnRefusal (unless_fault fault states)
unless_own None states = tt
unless_own (Some fault) states = fault_own fault

edit_own : (e : Edit) (s : State) → IsOwnRefusal (edit_states e s)
edit_own e s = unless_own (edit_fault s e) (edited s e, [])

fill_own : (from to : ℕ) (cell : Cell) (s : State) → IsOwnRefusal (fill_states from to cell s)
fill_own from to cell s =
    let one : State = edited s (edits.SetCell from cell) in
    let filled : Result States Refusal = unless_fault (edit_fault s (edits.SetCell to cell)) (one, fills (to - from) (from + 1) cell one) in
    own_if (nat_lt command_limit (cells_between from to)) (Err Count) (if nat_lt to from then Err Address else filled) refl
    (own_if (nat_lt to from) (Err Address) filled refl (unless_own (edit_fault s (edits.SetCell to cell)) (one, fills (to - from) (from + 1) cell one)))

module _ (k : ℕ) (forgotten : Bool) (limit : ℕ) (poor : Bool) (h : History) where
  abbrev retention : Retention
  retention = record { most = Some k; forgotten = forgotten }

  commanded_own : (bound : ℕ) (x : Result States Refusal) → IsOwnRefusal x → is_lacking_room (command_outcome retention limit bound poor h x).reply ≡ false
  commanded_own bound (Err r) j = j
  commanded_own bound (Ok states) j = refl

  moved_own : (r : Refusal) (x : Option History) → lacks_room r ≡ false → is_lacking_room (move_outcome retention h r x).reply ≡ false
  moved_own r None j = j
  moved_own r (Some to) j = refl

  undo_own : (b : Bool) → lacks_room (if b then Forgotten else NothingToUndo) ≡ false
  undo_own true = refl
  undo_own false = refl

  filled : (call : Call) → is_lacking_room (outcome retention limit call poor h).reply ≡ false
  filled Step = commanded_own 1 (step_states h.present.state) (step_own h.present.state)
  filled (Run n) = commanded_own n (run_states n h.present.state) (run_own n h.present.state)
  filled (Until c) = commanded_own (until_bound c h.present.state) (until_states c h.present.state) (until_own c h.present.state)
  filled (SetCell address cell) = commanded_own 1 (edit_states (edits.SetCell address cell) h.present.state) (edit_own (edits.SetCell address cell) h.present.state)
  filled (Fill from to cell) = commanded_own (cells_between from to) (fill_states from to cell h.present.state) (fill_own from to cell h.present.state)
  filled (MoveProcess w i address) = commanded_own 1 (edit_states (edits.MoveProcess w i address) h.present.state) (edit_own (edits.MoveProcess w i address) h.present.state)
  filled (Kill w i) = commanded_own 1 (edit_states (edits.KillProcess w i) h.present.state) (edit_own (edits.KillProcess w i) h.present.state)
  filled (Spawn w address) = commanded_own 1 (edit_states (edits.Spawn w address) h.present.state) (edit_own (edits.Spawn w address) h.present.state)
  filled Undo = moved_own (undo_refusal retention) (undo h) (undo_own forgotten)
  filled Redo = moved_own NothingToRedo (redo h) refl
  filled (Goto t) = moved_own (NotInHistory (first_turns h) (last_turns h)) (goto t h) refl

pub never_full : NeverFull
never_full k forgotten limit call poor h =
    let fine = filled k forgotten limit poor h call in (
      (λ room e. absurd (let f : false ≡ true = sym fine ∙ ap is_lacking_room e in cc)),
      (λ e. absurd (let f : false ≡ true = sym fine ∙ ap is_lacking_room e in cc)),
    )
