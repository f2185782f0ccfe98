-- How the code adds rounds to the tallies. Only the proofs use these definitions.
use Rattle.std.specs.Prelude.{ℕ, zero, suc, ◌+◌, ◌*◌, ◌≤◌, ◌^◌, ℤ, pos, ◌+ℤ◌, ◌≤ℤ◌, neg_ℤ, Bool, not, ◌&&◌, ◌==◌, if◌then◌else◌, List, [], ◌∷◌, length, Option, Result, Ok}
use Rattle.mars_cell.specs.Parameters.{Parameters}
use Rattle.mars_cell.specs.Warriors.{WarriorValue}
use Rattle.mars_core.specs.State.{State}
use Rattle.mars_match.specs.Battles.{in_load_order}
use Rattle.redcode_text.specs.Results.{◌>>=◌}
use Rattle.redcode_text.specs.Tokens.{Scanned}
use Rattle.mars_match.specs.Rounds.{Outcome, placed_for, round_outcome, has_lived, how_many}
use Rattle.mars_match.specs.Tables.{RowValue}
use Rattle.mars_match.specs.declared.fault.MatchFault.{MatchFault}
use Rattle.mars_match.specs.declared.table.Sum.{Sum}
use Rattle.mars_match.specs.declared.table.Tally.{Tally}

-- The tally of no rounds.
abbrev pub no_rounds : Tally
no_rounds = record { points = pos 0; wins = 0; ties = 0; losses = 0 }

-- The outcome of a round, from its last state. Warrior `first` had the first turn, and each survivor gets `score`.
abbrev pub outcome_by : ℕ → State → ℤ → Outcome
outcome_by first s score = record { lived = in_load_order first s; score = score }

-- The tally `t` of a warrior after one more round. `lived` is true if the warrior survived, `alone` if it was the only
-- survivor.
abbrev pub added_if : Bool → Bool → ℤ → Tally → Tally
added_if lived alone score t = record {
  points = t.points +ℤ (if lived then score else pos 0);
  wins = t.wins + (if lived && alone then 1 else 0);
  ties = t.ties + (if lived && not alone then 1 else 0);
  losses = t.losses + (if not lived then 1 else 0);
}

-- The tally of warrior `i` after one more round.
abbrev pub added : Outcome → ℕ → Tally → Tally
added outcome i t = added_if (has_lived i outcome) (how_many outcome.lived == 1) outcome.score t

-- The tallies from warrior `i` on after one more round.
abbrev pub all_added : Outcome → ℕ → List Tally → List Tally
all_added outcome i [] = []
all_added outcome i (t ∷ tallies) = added outcome i t ∷ all_added outcome (i + 1) tallies

-- The tallies after `n` more rounds, from round `k` and `seed` on, or the error of the first round that has one.
abbrev pub tallied : Parameters → List WarriorValue → Scanned → Option ℕ → ℕ → ℕ → ℕ → List Tally → Result (List Tally) MatchFault
tallied p warriors formula fixed zero k seed tallies = Ok tallies
tallied p warriors formula fixed (suc n) k seed tallies =
    placed_for p (length warriors) fixed seed >>= λ placed.
    round_outcome p warriors formula placed.0 k >>= λ outcome.
    tallied p warriors formula fixed n (k + 1) placed.1 (all_added outcome 0 tallies)

-- The maximum number of rounds of a match.
abbrev pub max_rounds : ℕ
max_rounds = 4294967295

-- The number of rounds of 65,536 matches of `max_rounds` each. No warrior of a league has more rounds against the
-- warriors after it.
abbrev pub max_row_rounds : ℕ
max_row_rounds = 281474976645120

-- The number of rounds of 4,294,967,294 matches of `max_rounds` each. Before any match of a league of 65,536 warriors,
-- no more rounds have been played.
abbrev pub max_rounds_before : ℕ
max_rounds_before = 18446744060824649730

-- The tally `t` may be that of at most `k` rounds, whose points fit 64 bits.
pub record IsOf (k : ℕ) (t : Tally) : Type 0 where
  pub low : neg_ℤ (pos (k * 2 ^ 63)) ≤ℤ t.points
  pub high : t.points ≤ℤ pos (k * 2 ^ 63)
  pub wins : t.wins ≤ k
  pub ties : t.ties ≤ k
  pub losses : t.losses ≤ k

-- The row of the warrior with the tally `t`.
abbrev pub row_with : WarriorValue → Tally → RowValue
row_with warrior t = record { name = warrior.name; author = warrior.author; points = t.points; wins = t.wins; ties = t.ties; losses = t.losses }

-- The rows of the warriors, each with its tally.
abbrev pub rows_with : List WarriorValue → List Tally → List RowValue
rows_with [] tallies = []
rows_with (w ∷ warriors) [] = []
rows_with (w ∷ warriors) (t ∷ tallies) = row_with w t ∷ rows_with warriors tallies

-- The sum of a candidate, with the tally `t` of one more match added.
abbrev pub summed : Sum → Tally → Sum
summed sum t = record { points = sum.points +ℤ t.points; wins = sum.wins + t.wins; ties = sum.ties + t.ties; losses = sum.losses + t.losses }

-- The sum may be that of at most `k` matches of at most `max_rounds` rounds, if the points of each match fit 64 bits.
pub record IsSumOf (k : ℕ) (sum : Sum) : Type 0 where
  pub low : neg_ℤ (pos (k * 2 ^ 63)) ≤ℤ sum.points
  pub high : sum.points ≤ℤ pos (k * 2 ^ 63)
  pub wins : sum.wins ≤ k * max_rounds
  pub ties : sum.ties ≤ k * max_rounds
  pub losses : sum.losses ≤ k * max_rounds
