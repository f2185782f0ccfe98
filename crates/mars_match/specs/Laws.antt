-- Laws of the definitions.
use Rattle.std.specs.Prelude.{◌≡◌, ◌==◌, ℕ, zero, suc, ◌+◌, ◌*◌, ◌-◌, ◌≤◌, ℤ, ◌+ℤ◌, Bool, not, List, [], ◌∷◌, ◌++◌, length, map, false, Option, Ok, All, AllPairs}
use Rattle.std.specs.Int.Signed.{lt_z}
use Rattle.std.specs.List.{filter, flat_map}
use Rattle.std.specs.List.Sorted.{IsPermutation, IsNonDecreasing}
use Rattle.mars_cell.specs.Parameters.{Parameters}
use Rattle.mars_cell.specs.Warriors.{WarriorValue}
use Rattle.redcode_text.specs.Tokens.{Scanned}
use Rattle.mars_match.specs.Fates.{fates}
use Rattle.mars_match.specs.Placement.{FitsTwo, ascending, starts_in_order}
use Rattle.mars_match.specs.Rounds.{Outcome, outcomes, table_of}
use Rattle.mars_match.specs.Leagues.{Pair, PlacedRow, all_pairs, league_of, own_rows, rows_of_pairs, sum_of_rows}
use Rattle.mars_match.specs.Results.{ranked, has_points}
use Rattle.mars_match.specs.Tables.{RowValue}
use Rattle.mars_match.specs.declared.fates.Fate.{Fate}

-- The ascending order of values has the same values and never decreases, and no other list does both.
pub record IsTheOrder (values : List ℕ) : Type 0 where
  pub same_values : IsPermutation values (ascending values)
  pub rises : IsNonDecreasing (ascending values)
  pub only : (others : List ℕ) → IsPermutation values others → IsNonDecreasing others → others ≡ ascending values

-- Each list of values has exactly one ascending order.
abbrev pub EachHasOneOrder : Type 0
EachHasOneOrder = (values : List ℕ) → IsTheOrder values

-- The ranking has the same rows, no row has more points than one before it, and rows with equal points keep their order.
pub record IsRanking (rows ranking : List RowValue) : Type 0 where
  pub same_rows : IsPermutation rows ranking
  pub falls : AllPairs (λ (a b : RowValue). lt_z a.points b.points ≡ false) ranking
  pub ties : (points : ℤ) → filter (has_points points) ranking ≡ filter (has_points points) rows

-- The ranked rows are a ranking of the rows.
abbrev pub RanksByPoints : Type 0
RanksByPoints = (rows : List RowValue) → IsRanking rows (ranked rows)

-- `n` consecutive multiples of a distance, starting with `i` times the distance.
abbrev pub multiples : ℕ → ℕ → ℕ → List ℕ
multiples distance i zero = []
multiples distance i (suc n) = (i * distance) ∷ multiples distance (i + 1) n

-- If the minimum distances of the warriors fill the core, the starts in order are the multiples of the distance, whatever
-- the seed.
abbrev pub FullCoresLeaveNoChoice : Type 0
FullCoresLeaveNoChoice = (p : Parameters) (w seed : ℕ) → 1 ≤ w → w * p.distance ≡ p.core_size → starts_in_order p w seed ≡ multiples p.distance 0 w

-- The number of rounds that a row counts.
abbrev pub rounds_of : RowValue → ℕ
rounds_of row = row.wins + row.ties + row.losses

-- In each row of a match, wins, ties and losses add up to the number of rounds.
abbrev pub EachRoundIsCounted : Type 0
EachRoundIsCounted = (p : Parameters) (warriors : List WarriorValue) (formula : Scanned) (fixed : Option ℕ) (n seed : ℕ) (rows : List RowValue) →
    table_of p warriors formula fixed n seed ≡ Ok rows → All (λ row. rounds_of row ≡ n) rows

-- In each row of a league, wins, ties and losses add up to the number of rounds of the matches with each other warrior.
abbrev pub EachMatchIsCounted : Type 0
EachMatchIsCounted = (p : Parameters) (warriors : List WarriorValue) (formula : Scanned) (fixed : Option ℕ) (n seed : ℕ) (rows : List RowValue) →
    league_of p warriors formula fixed n seed ≡ Ok rows → All (λ row. rounds_of row ≡ n * (length warriors - 1)) rows

-- If a match has outcomes, it has fates, and the survivors are the same in both. So the rows of a match are sums over its
-- fates.
abbrev pub FatesAreOutcomes : Type 0
FatesAreOutcomes = (counting : Bool) (p : Parameters) (warriors : List WarriorValue) (formula : Scanned) (fixed : Option ℕ) (n k seed : ℕ) (all : List Outcome) →
    1 ≤ length warriors → FitsTwo p (length warriors) fixed → outcomes p warriors formula fixed n k seed ≡ Ok all →
    (made : List Fate) × (fates counting p warriors fixed n k seed ≡ Ok made) × (map (λ (f : Fate). f.survived) made ≡ flat_map (λ (o : Outcome). o.lived) all)

-- The sum of two rows.
abbrev pub added_rows : RowValue → RowValue → RowValue
added_rows a b = record { name = a.name; author = a.author; points = a.points +ℤ b.points; wins = a.wins + b.wins; ties = a.ties + b.ties; losses = a.losses + b.losses }

-- The pairs that `is_in` selects have the rows `inside`, and the other pairs the rows `outside`. For each warrior, the sum
-- over all rows is the sum over `inside` plus the sum over `outside`.
pub record AddsUp (p : Parameters) (formula : Scanned) (fixed : Option ℕ) (n seed : ℕ) (is_in : Pair → Bool) (pairs : List Pair) (rows : List PlacedRow) : Type 0 where
  pub inside : List PlacedRow
  pub outside : List PlacedRow
  pub inside_rows : rows_of_pairs p formula fixed n seed (filter is_in pairs) ≡ Ok inside
  pub outside_rows : rows_of_pairs p formula fixed n seed (filter (λ pair. not (is_in pair)) pairs) ≡ Ok outside
  pub sums : (w : WarriorValue) (i : ℕ) → sum_of_rows w (own_rows i rows) ≡ added_rows (sum_of_rows w (own_rows i inside)) (sum_of_rows w (own_rows i outside))

-- However the pairs of a league are divided in two, the sums of the parts add up to those of the league.
abbrev pub LeaguesAddUp : Type 0
LeaguesAddUp = (p : Parameters) (formula : Scanned) (fixed : Option ℕ) (n seed : ℕ) (is_in : Pair → Bool) (pairs : List Pair) (rows : List PlacedRow) →
    rows_of_pairs p formula fixed n seed pairs ≡ Ok rows → AddsUp p formula fixed n seed is_in pairs rows

-- Whether warrior `k` is the second warrior of `pair`.
abbrev pub is_of : ℕ → Pair → Bool
is_of k pair = pair.second == k

-- Without the pairs of the last warrior, the pairs of a league are those of the other warriors.
abbrev pub NewcomersChangeNothing : Type 0
NewcomersChangeNothing = (warriors : List WarriorValue) (newcomer : WarriorValue) →
    filter (λ pair. not (is_of (length warriors) pair)) (all_pairs 0 (warriors ++ newcomer ∷ [])) ≡ all_pairs 0 warriors
