-- Lines, operands and cells as the code represents them.
use Rattle.std.specs.Prelude.{◌++◌, ℕ, List, Result, Ok, filter, option_map}
use Rattle.mars_cell.specs.declared.instruction.Cell.{Cell}
use Rattle.mars_cell.specs.Warriors.{WarriorValue}
use Rattle.redcode_text.specs.Results.{◌>>=◌}
use Rattle.redcode_text.specs.Expansion.{ProgramValue}
use Rattle.redcode_text.specs.Lines.{Line, Predefined, is_instruction}
use Rattle.redcode_text.specs.Views.{line_of}
use Rattle.redcode_asm.specs.Assembly.{Operands, Placed, cells_of, placed_from}
use Rattle.redcode_asm.specs.declared.fault.AsmFault.{AsmFault}
use Rattle.redcode_asm.specs.declared.operands.Operands.{Operands as OperandSlices}
use Rattle.redcode_asm.specs.declared.places.Place.{Place}

-- The operands that the code's slices represent.
abbrev pub operands_in : OperandSlices → Operands
operands_in slices = record { a = option_map (λ tokens. tokens.now) slices.a; b = option_map (λ tokens. tokens.now) slices.b }

-- The line and the index that the code's `Place` represents.
abbrev pub placed_of : Place → Placed
placed_of place = record { index = place.index; line = line_of place.line.now }

-- `cells` followed by the cells of the result `rest`.
abbrev pub prepend_cells : List Cell → Result (List Cell) AsmFault → Result (List Cell) AsmFault
prepend_cells cells rest = rest >>= λ more. Ok (cells ++ more)

-- The cells of the instructions among `ls`. `index` instructions precede the first of the lines.
abbrev pub cells_among : Predefined → ℕ → ProgramValue → ℕ → List Line → Result (List Cell) AsmFault
cells_among ps m source index ls = cells_of ps m source (filter (λ p. is_instruction source.names p.line.operation p.line.rest) (placed_from source.names index ls))

-- The warrior with the given cells and start, and with the name and the author of `source`.
abbrev pub warrior_from : ProgramValue → List Cell → ℕ → WarriorValue
warrior_from source cells start = record { name = source.name; author = source.author; cells = cells; start = start }
