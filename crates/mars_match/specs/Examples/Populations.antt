-- Examples: populations.
use Rattle.std.specs.Prelude.{◌≡◌, ℕ, ◌^◌, None, pos, List, [], ◌∷◌, Result, Ok, Err, codes, refl}
use Rattle.mars_cell.specs.Warriors.{WarriorValue}
use Rattle.mars_cell.specs.declared.instruction.Op.TheVariants.{Dat}
use Rattle.mars_cell.specs.declared.instruction.Modifier.TheVariants.{F}
use Rattle.mars_core.specs.Addresses.{address_after, fold}
use Rattle.mars_core.specs.Operand.{evaluated, direct_operand}
use Rattle.mars_core.specs.Effect.{effect_of}
use Rattle.mars_core.specs.Turn.{turn_of, executed, accepted, execution_of}
use Rattle.mars_core.specs.State.{advanced, ends}
use Rattle.mars_core.specs.Start.{start_state, overlap}
use Rattle.mars_core.specs.declared.battle.start.BattleFault.TheVariants.{FieldOutside}
use Rattle.redcode_text.specs.Tokens.{scanned}
use Rattle.redcode_text.specs.Expression.{value_of, tree_within}
use Rattle.redcode_text.specs.declared.fault.ExprFault.TheVariants.{Range}
use Rattle.redcode_asm.specs.Formula.{formula_of}
use Rattle.mars_match.specs.Battles.{survivors_of_round, end_of}
use Rattle.mars_match.specs.Placement.{drawn, starts_of, next_seed}
use Rattle.mars_match.specs.Populations.{checked_sum, population_of}
use Rattle.mars_match.specs.Rounds.{table_of}
use Rattle.mars_match.specs.declared.fault.MatchFault.{MatchFault}
use Rattle.mars_match.specs.declared.fault.MatchFault.TheVariants as fault
use Rattle.mars_match.specs.declared.table.Sum.{Sum}
use Rattle.mars_match.specs.Examples.Placements.{sizes}
use Rattle.mars_match.specs.Examples.Rounds.{one_cell, stay, dead}

-- The sums of candidates for matches of one round and one cycle in a core of four cells, scored by `formula`.
abbrev sums_by : List ℕ → List WarriorValue → List WarriorValue → Result (List Sum) MatchFault
sums_by formula opponents candidates = population_of (sizes 4 2) (elim (formula_of formula) [ Ok f ↦ f | Err e ↦ record { tokens = []; names = [] } ]) None 1 1 opponents candidates

-- DAT.F $4, $0 belongs to a larger core.
abbrev too_far : WarriorValue
too_far = one_cell Dat F 4 0

-- One candidate has a tie and a win, the other one two losses. The rows of the opponents are not counted.
pub candidates_are_summed : sums_by (codes "(W*W-1)/S") (stay ∷ dead ∷ []) (stay ∷ dead ∷ [])
    ≡ Ok (record { points = pos 4; wins = 1; ties = 1; losses = 0 } ∷ record { points = pos 0; wins = 0; ties = 0; losses = 2 } ∷ [])
unfolding table_of starts_of drawn next_seed survivors_of_round end_of start_state overlap scanned value_of tree_within turn_of executed accepted execution_of effect_of evaluated direct_operand address_after fold advanced ends
candidates_are_summed = refl

-- The first candidate loses to the first opponent, and its match with the second opponent has an error. So has the match
-- of the second candidate with the first opponent, in which both survive, but that match comes later.
pub first_match_is_reported : sums_by (codes "1/(S-2)") (stay ∷ too_far ∷ []) (dead ∷ stay ∷ []) ≡ Err (fault.Battle FieldOutside)
unfolding table_of starts_of drawn next_seed survivors_of_round end_of start_state overlap scanned value_of tree_within turn_of executed accepted execution_of effect_of evaluated direct_operand address_after fold advanced ends
first_match_is_reported = refl

-- Each row fits 64 bits, but the sum of both rows does not.
pub sums_are_checked : sums_by (codes "4611686018427387904") (stay ∷ stay ∷ []) (stay ∷ []) ≡ Err (fault.Score Range)
unfolding table_of starts_of drawn next_seed survivors_of_round end_of start_state overlap scanned value_of tree_within turn_of executed accepted execution_of effect_of evaluated direct_operand address_after fold advanced ends
sums_are_checked = refl

-- The sum of the first two rows does not fit 64 bits, but that of all three does.
pub only_whole_sums_are_checked : sums_by (codes "4611686018427387904*(3-2*S)") (dead ∷ dead ∷ stay ∷ []) (stay ∷ [])
    ≡ Ok (record { points = pos 4611686018427387904; wins = 2; ties = 1; losses = 0 } ∷ [])
unfolding table_of starts_of drawn next_seed survivors_of_round end_of start_state overlap scanned value_of tree_within turn_of executed accepted execution_of effect_of evaluated direct_operand address_after fold advanced ends
only_whole_sums_are_checked = refl

-- Wins, ties and losses fit 64 bits, each by itself.
pub each_number_is_checked :
    (checked_sum (record { points = pos 0; wins = 2 ^ 64; ties = 0; losses = 0 }) ≡ Err (fault.Score Range))
    × (checked_sum (record { points = pos 0; wins = 0; ties = 2 ^ 64; losses = 0 }) ≡ Err (fault.Score Range))
    × (checked_sum (record { points = pos 0; wins = 0; ties = 0; losses = 2 ^ 64 }) ≡ Err (fault.Score Range))
each_number_is_checked = (refl, refl, refl)
