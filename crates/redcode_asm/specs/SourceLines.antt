-- The source line and the labels of each cell of a warrior.
use Rattle.std.specs.Prelude.{ℕ, ◌+◌, List, [], ◌∷◌, ◌++◌, length, map, if◌then◌else◌, nat_lt, Result, Ok}
use Rattle.std.specs.List.{flat_map}
use Rattle.mars_cell.specs.Parameters.{Parameters}
use Rattle.redcode_text.specs.Results.{◌>>=◌}
use Rattle.redcode_text.specs.Expansion.{ProgramValue, expansion}
use Rattle.redcode_text.specs.Lines.{Predefined, name_at}
use Rattle.redcode_asm.specs.declared.fault.AsmFault.{AsmFault}
use Rattle.redcode_asm.specs.declared.lines.CellLine.{CellLine}
use Rattle.redcode_asm.specs.Assembly.{Placed, instructions, placed, predefined, text_read, warrior_of}

-- The lines of the cells of a warrior, and the text of all labels of the cells.
pub record CellLines : Type 0 where
  pub lines : List CellLine
  pub labels : List ℕ

-- The names of the labels, with a zero byte after each.
abbrev pub labels_text : List (List ℕ) → List ℕ → List ℕ
labels_text names labels = flat_map (λ label. name_at names label ++ 0 ∷ []) labels

-- The text of the labels of the first `count` instructions: the labels of all lines with fewer than `count`
-- instructions before them.
abbrev pub first_labels : ProgramValue → ℕ → List ℕ
first_labels source count = flat_map (λ p. if nat_lt p.index count then labels_text source.names p.line.labels else []) (placed source)

-- The line number of the instruction `p`, and where its labels begin and end in the text of all labels.
abbrev pub cell_line : ProgramValue → Placed → CellLine
cell_line source p = record { line = p.line.number; begin = length (first_labels source p.index); end = length (first_labels source (p.index + 1)) }

-- The lines of the instructions of a program, and their labels.
abbrev pub program_lines : ProgramValue → CellLines
program_lines source = record { lines = map (cell_line source) (instructions source); labels = first_labels source (length (instructions source)) }

-- The lines and labels of a program, or the first error of the program.
abbrev pub assembled_lines : Predefined → Parameters → ProgramValue → Result CellLines AsmFault
assembled_lines ps p source = warrior_of ps p source >>= λ _. Ok (program_lines source)

-- The lines and labels of a source, or the first error of the source.
abbrev pub source_lines : Parameters → ℕ → ℕ → List ℕ → Result CellLines AsmFault
source_lines p rounds warriors source =
    text_read (expansion (predefined p rounds warriors) source) >>= assembled_lines (predefined p rounds warriors) p
