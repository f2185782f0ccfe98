-- Examples: sources, with the line and the labels of each instruction.
use Rattle.std.specs.Prelude.{◌≡◌, ℕ, List, [], ◌∷◌, ◌++◌, Some, Result, Ok, Err, codes, refl}
use Rattle.std.specs.Fmt.{digits}
use Rattle.std.specs.List.{flat_map}
use Rattle.mars_cell.specs.Grammar.{default_modifier}
use Rattle.mars_cell.specs.Words.{op_of, modifier_of}
use Rattle.redcode_text.specs.Expansion.{expansion}
use Rattle.redcode_text.specs.Expression.{value_of, tree_within}
use Rattle.redcode_asm.specs.declared.fault.AsmFault.{AsmFault}
use Rattle.redcode_asm.specs.declared.fault.AsmProblem.TheVariants.{Operation}
use Rattle.redcode_asm.specs.declared.lines.CellLine.{CellLine}
use Rattle.redcode_asm.specs.Examples.Warriors.{parameters}
use Rattle.redcode_asm.specs.SourceLines.{CellLines, source_lines}

abbrev lines : List ℕ → Result CellLines AsmFault
lines source = source_lines (parameters 8000) 1 2 source

abbrev row : ℕ → ℕ → ℕ → CellLine
row line begin end = record { line = line; begin = begin; end = end }

-- The lines `rows`, with labels whose names are `names`.
abbrev are : List CellLine → List (List ℕ) → Result CellLines AsmFault
are rows names = Ok (record { lines = rows; labels = flat_map (λ name. name ++ 0 ∷ []) names })

-- A line in a FOR loop yields one line per iteration, with its `&` joins replaced. The labels of an ORG and labels on
-- lines of their own belong to the next instruction, or to none after the last instruction. An EQU name that is used as
-- an operation yields one line for each line of its definition, the first with the labels before the name.
pub lines_of_instructions :
    (lines (codes ";name x\ni FOR 2\nx&i DAT i, 0\nROF\n") ≡ are (row 3 0 4 ∷ row 3 4 8 ∷ []) (codes "x01" ∷ codes "x02" ∷ []))
    × (lines (codes "a ORG 1\n\nb:\nc: D NOP\nNOP\nlast") ≡ are (row 4 0 8 ∷ row 5 8 8 ∷ []) (codes "a" ∷ codes "b" ∷ codes "c" ∷ codes "D" ∷ []))
    × (lines (codes "two EQU NOP 1\n EQU e NOP 2\nz two\nEND") ≡ are (row 3 0 2 ∷ row 3 2 4 ∷ []) (codes "z" ∷ codes "e" ∷ []))
    × (lines (codes "NOP\nSTP 1, 2") ≡ Err (record { line = 2; problem = Operation; token = Some (record { from = 4; to = 7 }) }))
unfolding expansion value_of tree_within digits default_modifier op_of modifier_of
lines_of_instructions = (refl, refl, refl, refl)
