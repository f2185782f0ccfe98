-- Warriors, and what holds for them and their names.
use Rattle.std.specs.Prelude.{ℕ, ◌<◌, ◌≤◌, List, length, All}
use Rattle.mars_cell.specs.Limits.{max_name_len}
use Rattle.mars_cell.specs.declared.instruction.Cell.{Cell}

-- A program: its name, its author, its cells, and the index of the cell at which it starts.
pub record WarriorValue : Type 0 where
  pub name : List ℕ
  pub author : List ℕ
  pub cells : List Cell
  pub start : ℕ

-- `bytes` are a name: at most 60 bytes, each a printable ASCII character.
pub record IsName (bytes : List ℕ) : Type 0 where
  pub short : length bytes ≤ max_name_len
  pub printed : All (λ b. (32 ≤ b) × (b ≤ 126)) bytes

-- The invariant of a warrior: it starts at one of its cells, and its name and author are names.
pub record IsWarrior (w : WarriorValue) : Type 0 where
  pub start : w.start < length w.cells
  pub name : IsName w.name
  pub author : IsName w.author
