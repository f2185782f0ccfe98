-- The marks that the code sets, one after the other.
use Rattle.std.specs.Prelude.{ℕ, List, [], ◌∷◌, if◌then◌else◌}
use Rattle.mars_cell.specs.declared.instruction.Cell.{Cell}
use Rattle.mars_cell.specs.declared.instruction.Mode.{Mode}
use Rattle.mars_cell.specs.Parameters.{Parameters}
use Rattle.mars_core.specs.Marks.{Marks, marked, written_at}
use Rattle.mars_core.specs.Operand.{pointed_address}
use Rattle.mars_core.specs.Touched.{touched}
use Rattle.mars_core.specs.Turn.{execution_of}
use Rattle.mars_core.specs.Code.Operands.{writes_field}

-- `marks` after those of each kind are set at the addresses for this kind: `executed`, `written` and `touched`.
abbrev pub with_marks : List ℕ → List ℕ → List ℕ → Marks → Marks
with_marks executed written touched marks = record {
  executed = marked executed marks.executed;
  written = marked written marks.written;
  touched = marked touched marks.touched;
}

-- The address of the cell of which the evaluation of `mode` writes a field; an empty list if it writes no field.
abbrev pub pointed_writes : Parameters → ℕ → Mode → ℕ → List ℕ
pointed_writes p pc mode n = if writes_field mode then pointed_address p pc n ∷ [] else []

-- The marks after the execution of the instruction at `pc`.
abbrev pub marks_by : Parameters → List Cell → ℕ → Marks → Marks
marks_by p core pc marks = with_marks (pc ∷ []) (written_at (execution_of p core pc).written.changes) (touched p core pc) marks
