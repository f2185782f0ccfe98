-- The content of a table of results.
use Rattle.std.specs.Prelude.{ℕ, ℤ, List}
use Rattle.mars_cell.specs.Warriors.{IsName}

-- The results of one warrior.
pub record RowValue : Type 0 where
  pub name : List ℕ
  pub author : List ℕ
  pub points : ℤ
  pub wins : ℕ
  pub ties : ℕ
  pub losses : ℕ

-- What holds for each row: its name and author are valid names.
pub record IsRow (r : RowValue) : Type 0 where
  pub name : IsName r.name
  pub author : IsName r.author
