-- Records of turns as numbers.
use Rattle.std.specs.Prelude.{ℕ, if◌then◌else◌, List, [], ◌∷◌, length, Option, None, Some, slice_get, slice_index_or}
use Rattle.mars_core.specs.State.{State, is_over_of}
use Rattle.mars_core.specs.Turn.{turn_of, turn_record}
use Rattle.mars_core.specs.declared.record.Atom.{Atom}
use Rattle.mars_core.specs.declared.record.Work.{Work}
use Rattle.mars_core.specs.declared.record.Work.TheVariants.{Turn, SetCell, MoveProcess, KillProcess, Spawn}
use Rattle.mars_core.specs.declared.machine.writes.CellChange.{CellChange}
use Rattle.mars_c.specs.Cells.{plain_cell}
use Rattle.mars_c.specs.declared.cells.MarsCell.{MarsCell}
use Rattle.mars_c.specs.declared.records.MarsChange.{MarsChange}
use Rattle.mars_c.specs.declared.records.MarsRecord.{MarsRecord}

-- A write of a cell as numbers.
abbrev pub plain_change : CellChange → MarsChange
plain_change change = record { address = change.address; before = plain_cell change.before; after = plain_cell change.after }

-- The numbers of a cell that does not apply.
abbrev pub blank : MarsCell
blank = record { op = 0; modifier = 0; a_mode = 0; b_mode = 0; a = 0; b = 0 }

-- A write of a cell as numbers, or zeros if there is none.
abbrev pub change_of : Option CellChange → MarsChange
change_of None = record { address = 0; before = blank; after = blank }
change_of (Some change) = plain_change change

-- The warrior of a turn, and the address that was taken from its queue; 0 and 0 for edits.
abbrev pub taken_by : Work → ℕ × ℕ
taken_by (Turn w address) = (w, address)
taken_by SetCell = (0, 0)
taken_by (MoveProcess w i from to) = (0, 0)
taken_by (KillProcess w i address) = (0, 0)
taken_by (Spawn w address) = (0, 0)

-- The record of a turn as numbers. `cycle` is the number of cycles that are complete after the turn.
abbrev pub plain_record : Atom → ℕ → MarsRecord
plain_record atom cycle = record {
  warrior = (taken_by atom.work).0;
  address = (taken_by atom.work).1;
  next = atom.next_after;
  cycle = cycle;
  died = if atom.died then 1 else 0;
  changes = length atom.cells.items;
  queued = length atom.queued.items;
  change = change_of (slice_get atom.cells.items 0) ∷ change_of (slice_get atom.cells.items 1) ∷ change_of (slice_get atom.cells.items 2) ∷ [];
  process = slice_index_or atom.queued.items 0 0 ∷ slice_index_or atom.queued.items 1 0 ∷ [];
}

-- The row of the next turn of the state `s`.
abbrev pub turn_row : State → MarsRecord
turn_row s = plain_record (turn_record s) (turn_of s).cycle

-- The rows after one turn for each row from the state `s`, as long as turns are left. The other rows are unchanged.
abbrev pub recorded : {Row : Type 0} → (State → Row) → State → List Row → List Row
recorded row_of s [] = []
recorded row_of s (row ∷ rows) = if is_over_of s then row ∷ rows else row_of s ∷ recorded row_of (turn_of s) rows
