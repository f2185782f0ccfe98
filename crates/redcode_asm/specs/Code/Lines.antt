-- The lines and labels of `source_lines`, as the code builds them: line after line, in one text.
use Rattle.std.specs.Prelude.{ℕ, List, [], ◌∷◌, ◌++◌, length, take, true, false}
use Rattle.redcode_text.specs.Lines.{Line, is_instruction}
use Rattle.redcode_asm.specs.declared.lines.CellLine.{CellLine}
use Rattle.redcode_asm.specs.SourceLines.{labels_text}

-- In this file, `text` has all labels so far, and the labels from the offset `begin` on wait for the next instruction.

-- The lines of the instructions among the given lines.
abbrev pub lines_on : List (List ℕ) → ℕ → List ℕ → List Line → List CellLine
lines_on names begin text [] = []
lines_on names begin text (l ∷ ls) = elim (is_instruction names l.operation l.rest) [
  | true ↦ record { line = l.number; begin = begin; end = length (text ++ labels_text names l.labels) }
      ∷ lines_on names (length (text ++ labels_text names l.labels)) (text ++ labels_text names l.labels) ls
  | false ↦ lines_on names begin (text ++ labels_text names l.labels) ls
]

-- The text with the labels of the instructions among the given lines, without labels after the last instruction.
abbrev pub labels_on : List (List ℕ) → ℕ → List ℕ → List Line → List ℕ
labels_on names begin text [] = take begin text
labels_on names begin text (l ∷ ls) = elim (is_instruction names l.operation l.rest) [
  | true ↦ labels_on names (length (text ++ labels_text names l.labels)) (text ++ labels_text names l.labels) ls
  | false ↦ labels_on names begin (text ++ labels_text names l.labels) ls
]
