-- Warriors whose cells are in an array of the caller, why they are rejected, and the names of programs.
use Rattle.std.specs.Prelude.{◌≡◌, ◌≢◌, ◌≤◌, ◌<◌, ◌==◌, ◌-◌, ◌++◌, ◌&&◌, ℕ, ⊤, All, Bool, List, [], ◌∷◌, Some, drop, length, map, nat_le, not, replicate, slice_get, take, take_while}
use Rattle.std.specs.List.{list_all}
use Rattle.mars_cell.specs.Cells.{FitsCore}
use Rattle.mars_cell.specs.Parameters.{Parameters}
use Rattle.mars_cell.specs.Limits.{max_name_len}
use Rattle.mars_cell.specs.ParameterFaults.{is_within}
use Rattle.mars_cell.specs.Warriors.{WarriorValue}
use Rattle.mars_cell.specs.declared.instruction.Cell.{Cell}
use Rattle.mars_c.specs.Cells.{plain_cell}
use Rattle.mars_c.specs.declared.cells.MarsCell.{MarsCell}
use Rattle.mars_c.specs.declared.warriors.EntrantFault.{EntrantFault}
use Rattle.mars_c.specs.declared.warriors.EntrantFault.TheVariants.{OutOfMemory, Length, Start, Cell as WrongCell, Field}
use Rattle.mars_c.specs.declared.warriors.MarsProgram.{MarsProgram}
use Rattle.mars_c.specs.declared.warriors.MarsWarrior.{MarsWarrior}

-- The numbers `cells` are the cells of the warrior `w`, which fits the parameters `p` and has the start `start` and the names `name` and
-- `author`.
pub record IsEntrant (p : Parameters) (cells : List MarsCell) (start : ℕ) (name author : List ℕ) (w : WarriorValue) : Type 0 where
  pub cells_same : map plain_cell w.cells ≡ cells
  pub fits : All (FitsCore p.core_size) w.cells
  pub short : length cells ≤ p.max_length
  pub start_same : w.start ≡ start
  pub inside : start < length cells
  pub name_same : w.name ≡ name
  pub author_same : w.author ≡ author

-- The numbers `numbers` are a cell of a core of `m` cells.
abbrev pub IsCellOf : ℕ → MarsCell → Type 0
IsCellOf m numbers = (cell : Cell) × (plain_cell cell ≡ numbers) × FitsCore m cell

-- The error is the first wrong cell: the numbers before its index are cells of a core of `m` cells; the numbers at the index are no cell,
-- or the cell has a number outside the core.
abbrev pub IsWrongCell : ℕ → List MarsCell → EntrantFault → Type 0
IsWrongCell m cells OutOfMemory = ⊤
IsWrongCell m cells (WrongCell i) = All (IsCellOf m) (take i cells)
    × ((numbers : MarsCell) × (slice_get cells i ≡ Some numbers) × ((cell : Cell) → plain_cell cell ≢ numbers))
IsWrongCell m cells (Field i) = All (IsCellOf m) (take i cells)
    × ((cell : Cell) × (slice_get cells i ≡ Some (plain_cell cell)) × (FitsCore m cell → ⊥))
IsWrongCell m cells other = ⊥

-- The error is a reason for which the numbers `cells` are no warrior with the start `start`.
abbrev pub IsNoEntrant : Parameters → List MarsCell → ℕ → EntrantFault → Type 0
IsNoEntrant p cells start Length = (1 ≤ length cells) → (length cells ≤ p.max_length) → ⊥
IsNoEntrant p cells start Start = length cells ≤ start
IsNoEntrant p cells start fault = IsWrongCell p.core_size cells fault

-- The warriors `ws` have the lengths and starts that `entrants` says, and their cells are one after another at the front of
-- `cells`. `rest` are the cells that are left.
abbrev pub Reads : Parameters → List MarsCell → List MarsWarrior → List WarriorValue → List MarsCell → Type 0
Reads p cells [] [] rest = cells ≡ rest
Reads p cells [] (w ∷ ws) rest = ⊥
Reads p cells (one ∷ others) [] rest = ⊥
Reads p cells (one ∷ others) (w ∷ ws) rest =
    (one.length ≤ length cells) × IsEntrant p (take one.length cells) one.start [] [] w × Reads p (drop one.length cells) others ws rest

-- The warriors `ws` are read from the array `cells`, and no cell is left.
abbrev pub AreEntrants : Parameters → List MarsCell → List MarsWarrior → List WarriorValue → Type 0
AreEntrants p cells entrants ws = Reads p cells entrants ws []

-- A name in 64 bytes: zeros follow it.
abbrev pub plain_name : List ℕ → List ℕ
plain_name name = name ++ replicate (64 - length name) 0

-- The name in 64 bytes: all bytes before the first zero.
abbrev pub named : List ℕ → List ℕ
named bytes = take_while (λ b. not (b == 0)) bytes

-- The bytes are a valid name: at most 60 printable ASCII characters.
abbrev pub is_name : List ℕ → Bool
is_name bytes = nat_le (length bytes) max_name_len && list_all (is_within 32 126) bytes

-- The numbers of a warrior and its names.
abbrev pub plain_program : WarriorValue → MarsProgram
plain_program w = record { warrior = record { length = length w.cells; start = w.start }; name = plain_name w.name; author = plain_name w.author }
