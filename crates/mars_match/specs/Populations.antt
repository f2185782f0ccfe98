-- Populations: each candidate plays a match with each opponent, and its results are added up.
use Rattle.std.specs.Prelude.{ℕ, ◌+◌, ◌^◌, pos, ◌+ℤ◌, Bool, ◌&&◌, nat_lt, if◌then◌else◌, List, [], ◌∷◌, Option, Result, Ok, Err}
use Rattle.mars_cell.specs.Parameters.{Parameters}
use Rattle.mars_cell.specs.Warriors.{WarriorValue}
use Rattle.redcode_text.specs.Results.{◌>>=◌}
use Rattle.redcode_text.specs.Tokens.{Scanned}
use Rattle.redcode_text.specs.declared.fault.ExprFault.TheVariants.{Range}
use Rattle.mars_match.specs.Rounds.{fits_in_64, table_of}
use Rattle.mars_match.specs.Tables.{RowValue}
use Rattle.mars_match.specs.declared.fault.MatchFault.{MatchFault}
use Rattle.mars_match.specs.declared.fault.MatchFault.TheVariants.{Score}
use Rattle.mars_match.specs.declared.table.Sum.{Sum}

-- The sum of no matches.
abbrev pub no_matches : Sum
no_matches = record { points = pos 0; wins = 0; ties = 0; losses = 0 }

-- A sum with the row of a match added.
abbrev pub plus : Sum → RowValue → Sum
plus sum row = record { points = sum.points +ℤ row.points; wins = sum.wins + row.wins; ties = sum.ties + row.ties; losses = sum.losses + row.losses }

-- A sum with the candidate's row of a match added, which is the first of two.
abbrev pub with_match : Sum → List RowValue → Sum
with_match sum [] = sum
with_match sum (row ∷ rows) = plus sum row

-- The numbers of a sum fit 64 bits.
abbrev pub fits : Sum → Bool
fits sum = fits_in_64 sum.points && nat_lt sum.wins (2 ^ 64) && nat_lt sum.ties (2 ^ 64) && nat_lt sum.losses (2 ^ 64)

-- The sum, or an error if one of its numbers does not fit 64 bits.
abbrev pub checked_sum : Sum → Result Sum MatchFault
checked_sum sum = if fits sum then Ok sum else Err (Score Range)

-- A sum with the results of a candidate's matches with the opponents added, or the error of the first match that has
-- one. Each match has `n` rounds and begins with `seed`.
abbrev pub sum_from : Parameters → Scanned → Option ℕ → ℕ → ℕ → WarriorValue → Sum → List WarriorValue → Result Sum MatchFault
sum_from p formula fixed n seed candidate sum [] = Ok sum
sum_from p formula fixed n seed candidate sum (opponent ∷ opponents) =
    table_of p (candidate ∷ opponent ∷ []) formula fixed n seed >>= λ table.
    sum_from p formula fixed n seed candidate (with_match sum table) opponents

-- The sum of a candidate's matches with the opponents, or its error: that of the first match that has one, or that the
-- whole sum does not fit 64 bits.
abbrev pub candidate_sum : Parameters → Scanned → Option ℕ → ℕ → ℕ → List WarriorValue → WarriorValue → Result Sum MatchFault
candidate_sum p formula fixed n seed opponents candidate = sum_from p formula fixed n seed candidate no_matches opponents >>= checked_sum

-- The sums of the candidates, in order, or the error of the first candidate that has one.
abbrev pub population_of : Parameters → Scanned → Option ℕ → ℕ → ℕ → List WarriorValue → List WarriorValue → Result (List Sum) MatchFault
population_of p formula fixed n seed opponents [] = Ok []
population_of p formula fixed n seed opponents (candidate ∷ candidates) =
    candidate_sum p formula fixed n seed opponents candidate >>= λ sum.
    population_of p formula fixed n seed opponents candidates >>= λ sums. Ok (sum ∷ sums)
