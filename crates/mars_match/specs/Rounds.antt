-- Rounds: the survivors of each round, the points of a survivor, and the sums. Parameters: `p` are the parameters of the
-- battles, `formula` the score formula, `fixed` the fixed position of the second warrior, if there is one, `k` the number
-- of the round, and `seed` the seed for its starts.
use Rattle.std.specs.Prelude.{ℕ, zero, suc, ◌+◌, ◌^◌, ℤ, pos, negsuc, ◌+ℤ◌, Bool, false, not, ◌&&◌, ◌==◌, nat_lt, if◌then◌else◌, List, [], ◌∷◌, length, count_by, slice_index_or, Option, None, Some, Result, Ok, Err}
use Rattle.std.specs.List.{list_all}
use Rattle.mars_cell.specs.Parameters.{Parameters}
use Rattle.mars_cell.specs.Warriors.{WarriorValue}
use Rattle.mars_core.specs.declared.battle.start.BattleFault.{BattleFault}
use Rattle.redcode_text.specs.Results.{◌>>=◌}
use Rattle.redcode_text.specs.Tokens.{Scanned}
use Rattle.redcode_text.specs.declared.fault.ExprFault.{ExprFault}
use Rattle.redcode_text.specs.declared.fault.ExprFault.TheVariants.{Range}
use Rattle.redcode_asm.specs.Formula.{score_of}
use Rattle.mars_match.specs.Battles.{fought, count_fault}
use Rattle.mars_match.specs.Placement.{starts_of, next_seed, place_fault}
use Rattle.mars_match.specs.Tables.{RowValue}
use Rattle.mars_match.specs.declared.fault.MatchFault.{MatchFault}
use Rattle.mars_match.specs.declared.fault.MatchFault.TheVariants as fault
use Rattle.mars_match.specs.declared.placement.PlaceFault.{PlaceFault}

-- The outcome of a round: whether each warrior survived, in load order, and the points of each survivor.
pub record Outcome : Type 0 where
  pub lived : List Bool
  pub score : ℤ

-- The number of survivors.
abbrev pub how_many : List Bool → ℕ
how_many lived = count_by (λ alive. alive) lived

-- The value of a formula, or its error as the error of a match.
abbrev pub as_score : Result ℤ ExprFault → Result ℤ MatchFault
as_score (Ok z) = Ok z
as_score (Err f) = Err (fault.Score f)

-- The points of each survivor: the value of the formula for the numbers of warriors and survivors. Without survivors the
-- formula is not evaluated.
abbrev pub round_score : Scanned → List Bool → Result ℤ MatchFault
round_score formula lived =
    if how_many lived == 0 then Ok (pos 0) else as_score (score_of formula (pos (length lived)) (pos (how_many lived)))

-- The outcome of a round with the survivors `lived`.
abbrev pub outcome_of : Scanned → List Bool → Result Outcome MatchFault
outcome_of formula lived = round_score formula lived >>= λ score. Ok (record { lived = lived; score = score })

-- The outcome of round `k`, or its error.
abbrev pub round_outcome : Parameters → List WarriorValue → Scanned → List ℕ → ℕ → Result Outcome MatchFault
round_outcome p warriors formula starts k = fought p warriors starts k >>= outcome_of formula

-- The starts and the seed in `placed`, unless there is an error.
abbrev pub placed_unless : Option PlaceFault → List ℕ × ℕ → Result (List ℕ × ℕ) MatchFault
placed_unless None placed = Ok placed
placed_unless (Some f) placed = Err (fault.Place f)

-- The starts of `w` warriors in a round, and the seed for the next round. With a fixed position of the second warrior
-- nothing is drawn.
abbrev pub placed_for : Parameters → ℕ → Option ℕ → ℕ → Result (List ℕ × ℕ) MatchFault
placed_for p w (Some position) seed = Ok (0 ∷ position ∷ [], seed)
placed_for p w None seed = placed_unless (place_fault p w seed) (starts_of p w seed, next_seed w seed)

-- The outcomes of `n` rounds, from round `k` and `seed` on, or the error of the first round that has one.
abbrev pub outcomes : Parameters → List WarriorValue → Scanned → Option ℕ → ℕ → ℕ → ℕ → Result (List Outcome) MatchFault
outcomes p warriors formula fixed zero k seed = Ok []
outcomes p warriors formula fixed (suc n) k seed =
    placed_for p (length warriors) fixed seed >>= λ placed.
    round_outcome p warriors formula placed.0 k >>= λ outcome.
    outcomes p warriors formula fixed n (k + 1) placed.1 >>= λ others. Ok (outcome ∷ others)

-- Warrior `i` survived.
abbrev pub has_lived : ℕ → Outcome → Bool
has_lived i outcome = slice_index_or outcome.lived i false

-- The only survivor wins. A survivor among several has a tie, and a warrior that did not survive has a loss.
abbrev pub has_won : ℕ → Outcome → Bool
has_won i outcome = has_lived i outcome && (how_many outcome.lived == 1)

abbrev pub has_tied : ℕ → Outcome → Bool
has_tied i outcome = has_lived i outcome && not (how_many outcome.lived == 1)

abbrev pub has_lost : ℕ → Outcome → Bool
has_lost i outcome = not (has_lived i outcome)

-- The points of warrior `i` in a round.
abbrev pub round_points : ℕ → Outcome → ℤ
round_points i outcome = if has_lived i outcome then outcome.score else pos 0

-- The exact sum of the points of warrior `i`.
abbrev pub points_of : ℕ → List Outcome → ℤ
points_of i [] = pos 0
points_of i (outcome ∷ outcomes) = round_points i outcome +ℤ points_of i outcomes

-- The row of warrior `i`.
abbrev pub row_of : WarriorValue → ℕ → List Outcome → RowValue
row_of warrior i outcomes = record {
  name = warrior.name;
  author = warrior.author;
  points = points_of i outcomes;
  wins = count_by (has_won i) outcomes;
  ties = count_by (has_tied i) outcomes;
  losses = count_by (has_lost i) outcomes;
}

-- The rows of the warriors, from warrior `i` on.
abbrev pub rows_from : ℕ → List WarriorValue → List Outcome → List RowValue
rows_from i [] outcomes = []
rows_from i (warrior ∷ warriors) outcomes = row_of warrior i outcomes ∷ rows_from (i + 1) warriors outcomes

-- The number fits a signed 64-bit number.
abbrev pub fits_in_64 : ℤ → Bool
fits_in_64 (pos n) = nat_lt n (2 ^ 63)
fits_in_64 (negsuc n) = nat_lt n (2 ^ 63)

-- The rows, or an error if the points of one of them do not fit 64 bits.
abbrev pub checked_rows : List RowValue → Result (List RowValue) MatchFault
checked_rows rows = if list_all (λ row. fits_in_64 row.points) rows then Ok rows else Err (fault.Score Range)

-- The result, unless there is an error of the number of warriors.
abbrev pub counted : {A : Type 0} → Option BattleFault → Result A MatchFault → Result A MatchFault
counted None result = result
counted (Some f) result = Err (fault.Battle f)

-- The table of a match of `n` rounds that begins with `seed`, or its first error: no warrior or too many, then the error
-- of the first round that has one, then points that do not fit 64 bits.
unfoldable pub table_of : Parameters → List WarriorValue → Scanned → Option ℕ → ℕ → ℕ → Result (List RowValue) MatchFault
table_of p warriors formula fixed n seed =
    counted (count_fault (length warriors)) (outcomes p warriors formula fixed n 0 seed >>= λ all. checked_rows (rows_from 0 warriors all))
