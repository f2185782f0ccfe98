-- The text of a cell.
use Rattle.std.specs.Prelude.{ℕ, ◌-◌, ◌/◌, List, ◌++◌, nat_le, if◌then◌else◌, codes, decimal}
use Rattle.mars_cell.specs.declared.instruction.Mode.{Mode}
use Rattle.mars_cell.specs.declared.instruction.Cell.{Cell}
use Rattle.mars_cell.specs.Words.{op_name, modifier_name, mode_name}

-- The text of a number `n` in a core of `m` cells. If `n` is at most half of `m`, it is printed as it is, and otherwise
-- as the negative number that refers to the same cell.
abbrev pub number_text : ℕ → ℕ → List ℕ
number_text m n = if nat_le n (m / 2) then decimal n else codes "-" ++ decimal (m - n)

-- The text of an operand in a core of `m` cells: its mode and its number.
abbrev pub operand_text : ℕ → Mode → ℕ → List ℕ
operand_text m mode n = mode_name mode ++ number_text m n

-- The text of a cell of a core of `m` cells, such as `MOV.I $0, $-1`.
abbrev pub cell_text : ℕ → Cell → List ℕ
cell_text m c = op_name c.op ++ codes "." ++ modifier_name c.modifier ++ codes " " ++ operand_text m c.a_mode c.a ++ codes ", " ++ operand_text m c.b_mode c.b
