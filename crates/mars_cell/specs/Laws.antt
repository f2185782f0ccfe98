-- The laws: what is written is read back.
use Rattle.std.specs.Prelude.{◌≡◌, ℕ, ◌<◌, ◌≤◌, ◌^◌, ℤ, pos, length, map, All, Some, Ok}
use Rattle.mars_cell.specs.declared.instruction.Cell.{Cell}
use Rattle.mars_cell.specs.Limits.{max_core_size}
use Rattle.mars_cell.specs.Cells.{FitsCore}
use Rattle.mars_cell.specs.Grammar.{read_cell}
use Rattle.mars_cell.specs.Load.{load}
use Rattle.mars_cell.specs.Numbers.{by_value, residue}
use Rattle.mars_cell.specs.Parameters.{Parameters, AreInRange}
use Rattle.mars_cell.specs.Text.{cell_text}
use Rattle.mars_cell.specs.Warriors.{WarriorValue, IsWarrior}
use Rattle.mars_cell.specs.Written.{load_text}

-- A number that is read for a core of the size that it was written for is taken modulo that size.
abbrev pub ValueIsResidue : Type 0
ValueIsResidue = (m : ℕ) (z : ℤ) → 1 ≤ m → by_value m m z ≡ residue m z

-- The text of a cell is read back as the cell, in every core whose size is a u32.
abbrev pub TextIsRead : Type 0
TextIsRead = (m : ℕ) (c : Cell) → m < 2 ^ 32 → FitsCore m c → read_cell m (cell_text m c) ≡ Some c

-- The load file of a warrior is read back as the warrior, in a core of the size that it was written for, if the warrior isn't
-- longer than the maximum length.
abbrev pub LoadFileIsRead : Type 0
LoadFileIsRead = (p : Parameters) (w : WarriorValue) → AreInRange p → IsWarrior w → length w.cells ≤ p.max_length → All (FitsCore p.core_size) w.cells
    → load p.core_size p.max_length (load_text p.core_size w) ≡ Ok w

-- The number in a core of `size` cells with the value that `n` has in a core of `m` cells.
abbrev pub carried_number : ℕ → ℕ → ℕ → ℕ
carried_number m size n = by_value m size (pos n)

-- The cell `c` of a core of `m` cells, with both numbers carried by their values to a core of `size` cells.
abbrev pub carried : ℕ → ℕ → Cell → Cell
carried m size c = record c { a = carried_number m size c.a; b = carried_number m size c.b }

-- A load file that was written for a core of `m` cells is read in any other core as the same warrior, with its numbers carried by
-- value, if the warrior isn't longer than the maximum length there.
abbrev pub LoadFileIsCarried : Type 0
LoadFileIsCarried = (m : ℕ) (p : Parameters) (w : WarriorValue) → m ≤ max_core_size → AreInRange p → IsWarrior w → length w.cells ≤ p.max_length → All (FitsCore m) w.cells
    → load p.core_size p.max_length (load_text m w) ≡ Ok (record w { cells = map (carried m p.core_size) w.cells })
