-- Leagues: every pair of warriors plays one match, and the row of a warrior is the sum of its rows in these matches.
use Rattle.std.specs.Prelude.{ℕ, ◌+◌, ℤ, pos, ◌+ℤ◌, ◌==◌, if◌then◌else◌, List, [], ◌∷◌, ◌++◌, sum_by, Option, Result, Ok}
use Rattle.mars_cell.specs.Parameters.{Parameters}
use Rattle.mars_cell.specs.Warriors.{WarriorValue}
use Rattle.redcode_text.specs.Results.{◌>>=◌}
use Rattle.redcode_text.specs.Tokens.{Scanned}
use Rattle.mars_match.specs.Rounds.{table_of, checked_rows}
use Rattle.mars_match.specs.Tables.{RowValue}
use Rattle.mars_match.specs.declared.fault.MatchFault.{MatchFault}

-- The maximum number of warriors of a league.
abbrev pub max_league_warriors : ℕ
max_league_warriors = 65536

-- Two warriors that play a match, and their places in load order.
pub record Pair : Type 0 where
  pub first : ℕ
  pub second : ℕ
  pub one : WarriorValue
  pub other : WarriorValue

-- The pairs of `one`, which is warrior `i`, with each warrior of the list, which has the warriors from `j` on.
abbrev pub pairs_with : ℕ → WarriorValue → ℕ → List WarriorValue → List Pair
pairs_with i one j [] = []
pairs_with i one j (other ∷ others) = record { first = i; second = j; one = one; other = other } ∷ pairs_with i one (j + 1) others

-- Every pair once, in the order of the first warrior, then of the second one. The warriors are those from warrior `i` on.
abbrev pub all_pairs : ℕ → List WarriorValue → List Pair
all_pairs i [] = []
all_pairs i (one ∷ others) = pairs_with i one (i + 1) others ++ all_pairs (i + 1) others

-- A row of a match, and the place of its warrior in load order.
pub record PlacedRow : Type 0 where
  pub place : ℕ
  pub row : RowValue

-- The rows of a match, each with the place of its warrior from the list of places.
abbrev pub placed_rows : List ℕ → List RowValue → List PlacedRow
placed_rows [] rows = []
placed_rows (place ∷ places) [] = []
placed_rows (place ∷ places) (row ∷ rows) = record { place = place; row = row } ∷ placed_rows places rows

-- The rows of the matches of all `pairs`, of `n` rounds each, which all begin with `seed`; or the error of the first
-- match that has one.
abbrev pub rows_of_pairs : Parameters → Scanned → Option ℕ → ℕ → ℕ → List Pair → Result (List PlacedRow) MatchFault
rows_of_pairs p formula fixed n seed [] = Ok []
rows_of_pairs p formula fixed n seed (pair ∷ pairs) =
    table_of p (pair.one ∷ pair.other ∷ []) formula fixed n seed >>= λ table.
    rows_of_pairs p formula fixed n seed pairs >>= λ others. Ok (placed_rows (pair.first ∷ pair.second ∷ []) table ++ others)

-- The rows of warrior `i`.
abbrev pub own_rows : ℕ → List PlacedRow → List RowValue
own_rows i [] = []
own_rows i (placed ∷ rows) = if placed.place == i then placed.row ∷ own_rows i rows else own_rows i rows

-- The exact sum of the points of all rows.
abbrev pub all_points : List RowValue → ℤ
all_points [] = pos 0
all_points (row ∷ rows) = row.points +ℤ all_points rows

-- The row of a warrior in a league, from its rows in the matches.
abbrev pub sum_of_rows : WarriorValue → List RowValue → RowValue
sum_of_rows warrior rows = record {
  name = warrior.name;
  author = warrior.author;
  points = all_points rows;
  wins = sum_by (λ row. row.wins) rows;
  ties = sum_by (λ row. row.ties) rows;
  losses = sum_by (λ row. row.losses) rows;
}

-- The rows of a league, from warrior `i` on.
abbrev pub sums_from : ℕ → List WarriorValue → List PlacedRow → List RowValue
sums_from i [] rows = []
sums_from i (warrior ∷ warriors) rows = sum_of_rows warrior (own_rows i rows) ∷ sums_from (i + 1) warriors rows

-- The table of a league, or its first error: that of the first match that has one, then points that do not fit 64 bits.
unfoldable pub league_of : Parameters → List WarriorValue → Scanned → Option ℕ → ℕ → ℕ → Result (List RowValue) MatchFault
league_of p warriors formula fixed n seed = rows_of_pairs p formula fixed n seed (all_pairs 0 warriors) >>= λ rows. checked_rows (sums_from 0 warriors rows)
