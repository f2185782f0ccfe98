-- The first of the turns or cells that a command has left, and whether a cell can be set.
use Rattle.std.proofs.Common.{◌≡◌, ℕ, zero, suc, ◌+◌, ◌-◌, ◌<◌, ◌≤◌, Bool, true, false, [], ◌∷◌, refl, arith, sub-one}
use Rattle.std.specs.Prelude.{Option, None, Some, nat_lt, if◌then◌else◌}
use Rattle.std.specs.Option.{option_or}
use Rattle.std.proofs.lemmas.Grind.{common_steps}
use Rattle.mars_cell.specs.declared.instruction.Cell.{Cell}
use Rattle.mars_core.specs.Edit.{edit_fault, edited, cell_fault}
use Rattle.mars_core.proofs.CallerLemmas.{shape-edited}
use Rattle.mars_core.specs.declared.battle.edit.Edit.{Edit}
use Rattle.mars_core.specs.declared.battle.edit.Edit.TheVariants as edits
use Rattle.mars_core.specs.declared.battle.edit.EditFault.{EditFault}
use Rattle.mars_core.specs.declared.battle.edit.EditFault.TheVariants as faults
use Rattle.mars_core.specs.State.{State}
use Rattle.mars_core.specs.Turn.{turn_of}
use Rattle.std.specs.Prelude.{Ok}
use Rattle.std.proofs.lemmas.Bool.{le-ltb}
use Rattle.mars_session.specs.Commands.{command_limit, turns_until, fills, cells_between, fill_states}
use Rattle.mars_session.specs.Code.Appending.{Kept, go_on, go_on_all}

-- If a turn is left and the state `s` is not done, the first turn is the turn of `s`.
pub turns_until_more : (done : State → Bool) (n : ℕ) (s : State) → 0 < n → done s ≡ false → turns_until done n s ≡ turn_of s ∷ turns_until done (n - 1) (turn_of s)
turns_until_more done zero s h e = absurd (omega arith)
turns_until_more done (suc n) s h e = rw (e, sub-one) refl

-- If the state is done, no turn is executed.
pub turns_until_done : (done : State → Bool) (n : ℕ) (s : State) → done s ≡ true → turns_until done n s ≡ []
turns_until_done done zero s h = refl
turns_until_done done (suc n) s h = rw h refl

-- After the first turn is executed, the turns that are left lead to the same end.
pub one_turned : (done : State → Bool) (n : ℕ) (t new end : Kept) → 0 < n → done t.history.present.state ≡ false
    → go_on_all t (turns_until done n t.history.present.state) ≡ end → new ≡ go_on t (turn_of t.history.present.state)
    → go_on_all new (turns_until done (n - 1) new.history.present.state) ≡ end
one_turned done n t new end left runs so_far is = rw is (rw (turns_until_more done n t.history.present.state left runs) at so_far)

-- A fill starts with its first cell.
pub fills_more : (n address : ℕ) (cell : Cell) (s : State) → 0 < n
    → fills n address cell s ≡ edited s (edits.SetCell address cell) ∷ fills (n - 1) (address + 1) cell (edited s (edits.SetCell address cell))
fills_more zero address cell s h = absurd (omega arith)
fills_more (suc n) address cell s h = rw sub-one refl

-- After the first cell is set, the cells that are left lead to the same end.
pub one_filled : (to address : ℕ) (cell : Cell) (t new end : Kept) → address < to
    → go_on_all t (fills (to - address) (address + 1) cell t.history.present.state) ≡ end → new ≡ go_on t (edited t.history.present.state (edits.SetCell (address + 1) cell))
    → go_on_all new (fills (to - (address + 1)) (address + 1 + 1) cell new.history.present.state) ≡ end
one_filled to address cell t new end left so_far is =
    let less : (to - address) - 1 ≡ to - (address + 1) = omega arith in
    rw is (rw (fills_more (to - address) (address + 1) cell t.history.present.state (omega arith), less) at so_far)

-- An edit does not change whether a cell can be set.
pub fault_kept : (s : State) (e : Edit) (address : ℕ) (cell : Cell) → edit_fault (edited s e) (edits.SetCell address cell) ≡ edit_fault s (edits.SetCell address cell)
unfolding edit_fault
fault_kept s e address cell = rw (shape-edited s e).params refl

inside-below : (a b size : ℕ) (fits : Option EditFault) → a ≤ b
    → option_or (if nat_lt b size then None else Some faults.Address) fits ≡ None
    → option_or (if nat_lt a size then None else Some faults.Address) fits ≡ None
inside-below a b size fits l h = grind (common_steps, arith)

-- If a cell can be set, so can each cell with a lower address.
pub fault_below : (s : State) (a b : ℕ) (cell : Cell) → a ≤ b → edit_fault s (edits.SetCell b cell) ≡ None → edit_fault s (edits.SetCell a cell) ≡ None
unfolding edit_fault
fault_below s a b cell l h = inside-below a b s.params.core_size (cell_fault s.params.core_size cell) l h

-- The states of a fill whose last cell can be set.
pub filled : (from to : ℕ) (cell : Cell) (s : State) → from ≤ to → to - from < command_limit → edit_fault s (edits.SetCell to cell) ≡ None
    → let one = edited s (edits.SetCell from cell) in fill_states from to cell s ≡ Ok (one, fills (to - from) (from + 1) cell one)
filled from to cell s l few none =
    let some : nat_lt command_limit (cells_between from to) ≡ false = le-ltb command_limit (cells_between from to) (omega (arith, l, few)) in
    let up : nat_lt to from ≡ false = le-ltb to from l in
    rw (some, up, none) refl
