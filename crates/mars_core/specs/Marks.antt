-- The marks of the cells that turns execute, write and touch. Each cell has three marks, which are never cleared.
use Rattle.std.specs.Prelude.{ℕ, Bool, true, List, [], ◌∷◌, map, slice_set}
use Rattle.mars_core.specs.State.{State, queue_of}
use Rattle.mars_core.specs.Touched.{touched_in_turn}
use Rattle.mars_core.specs.Turn.{front_of, turn_record}
use Rattle.mars_core.specs.declared.machine.marks.Mark.{Mark}
use Rattle.mars_core.specs.declared.machine.writes.CellChange.{CellChange}

-- The marks of all cells, a list for each kind.
pub record Marks : Type 0 where
  pub executed : List Bool
  pub written : List Bool
  pub touched : List Bool

-- The marks as one list for each kind, from a list with the three marks of each cell.
abbrev pub marks_of : List Mark → Marks
marks_of marks = record {
  executed = map (λ (m : Mark). m.executed) marks;
  written = map (λ (m : Mark). m.written) marks;
  touched = map (λ (m : Mark). m.touched) marks;
}

-- The list `marks`, of one kind, after the marks of the cells at `addresses` are set.
abbrev pub marked : List ℕ → List Bool → List Bool
marked [] marks = marks
marked (a ∷ addresses) marks = marked addresses (slice_set marks a true)

-- The addresses of the writes `changes`, in order.
abbrev pub written_at : List CellChange → List ℕ
written_at changes = map (λ (change : CellChange). change.address) changes

-- The marks after the next turn of `s`: the cell that it executes is marked as executed, the cells that it writes as
-- written, and the cells that it touches as touched.
abbrev pub marks_after : State → Marks → Marks
marks_after s marks = record {
  executed = marked (front_of (queue_of s.queues s.next) ∷ []) marks.executed;
  written = marked (written_at (turn_record s).cells.items) marks.written;
  touched = marked (touched_in_turn s) marks.touched;
}
