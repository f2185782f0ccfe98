-- How the code adds the matches of a league to the tallies. Only the proofs use these definitions.
use Rattle.std.specs.Prelude.{ℕ, zero, suc, ◌+◌, ◌+ℤ◌, List, [], ◌∷◌, Option, Result, Ok}
use Rattle.mars_cell.specs.Parameters.{Parameters}
use Rattle.mars_cell.specs.Warriors.{WarriorValue}
use Rattle.redcode_text.specs.Results.{◌>>=◌}
use Rattle.redcode_text.specs.Tokens.{Scanned}
use Rattle.mars_match.specs.Rounds.{table_of}
use Rattle.mars_match.specs.Tables.{RowValue}
use Rattle.mars_match.specs.Leagues.{Pair, pairs_with, PlacedRow, placed_rows}
use Rattle.mars_match.specs.declared.fault.MatchFault.{MatchFault}
use Rattle.mars_match.specs.declared.table.Tally.{Tally}

-- The pairs of the first warrior of the list, which is warrior `i`, with each warrior after it.
abbrev pub pairs_of_first : ℕ → List WarriorValue → List Pair
pairs_of_first i [] = []
pairs_of_first i (one ∷ others) = pairs_with i one (i + 1) others

-- The sum of the tallies `t` and `more`.
abbrev pub joined : Tally → Tally → Tally
joined t more = record {
  points = t.points +ℤ more.points;
  wins = t.wins + more.wins;
  ties = t.ties + more.ties;
  losses = t.losses + more.losses;
}

-- The tally with the numbers of `row`.
abbrev pub sums : RowValue → Tally
sums row = record { points = row.points; wins = row.wins; ties = row.ties; losses = row.losses }

-- The tallies with `more` added to the tally of warrior `i`.
abbrev pub joined_at : ℕ → Tally → List Tally → List Tally
joined_at i more [] = []
joined_at zero more (t ∷ tallies) = joined t more ∷ tallies
joined_at (suc i) more (t ∷ tallies) = t ∷ joined_at i more tallies

-- The tallies with each row added to the tally of its warrior, one after another.
abbrev pub with_rows : List PlacedRow → List Tally → List Tally
with_rows [] tallies = tallies
with_rows (placed ∷ rows) tallies = with_rows rows (joined_at placed.place (sums placed.row) tallies)

-- The tallies after the matches of the pairs, or the error of the first match that has one. Each match has `n` rounds
-- and begins with `seed`.
abbrev pub after_matches : Parameters → Scanned → Option ℕ → ℕ → ℕ → List Pair → List Tally → Result (List Tally) MatchFault
after_matches p formula fixed n seed [] tallies = Ok tallies
after_matches p formula fixed n seed (pair ∷ pairs) tallies =
    table_of p (pair.one ∷ pair.other ∷ []) formula fixed n seed >>= λ table.
    after_matches p formula fixed n seed pairs (with_rows (placed_rows (pair.first ∷ pair.second ∷ []) table) tallies)
