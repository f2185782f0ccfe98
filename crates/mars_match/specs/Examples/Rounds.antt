-- Examples: which warrior has the first turn of a round, where it starts, and the points of a round.
use Rattle.std.specs.Prelude.{◌≡◌, None, Some, ℕ, ℤ, pos, negsuc, true, false, List, [], ◌∷◌, Ok, Err, codes, replicate, refl}
use Rattle.mars_cell.specs.Warriors.{WarriorValue}
use Rattle.mars_cell.specs.declared.instruction.Op.{Op}
use Rattle.mars_cell.specs.declared.instruction.Op.TheVariants.{Dat, Mov, Jmp}
use Rattle.mars_cell.specs.declared.instruction.Modifier.TheVariants.{B, F, I}
use Rattle.mars_cell.specs.declared.instruction.Modifier.{Modifier}
use Rattle.mars_cell.specs.declared.instruction.Mode.TheVariants.{Direct}
use Rattle.mars_core.specs.Addresses.{address_after, fold}
use Rattle.mars_core.specs.Writes.{write_cell}
use Rattle.mars_core.specs.Operand.{evaluated, direct_operand}
use Rattle.mars_core.specs.Effect.{effect_of}
use Rattle.mars_core.specs.Turn.{turn_of, executed, accepted, execution_of}
use Rattle.mars_core.specs.State.{advanced, ends}
use Rattle.mars_core.specs.Start.{start_state, overlap}
use Rattle.mars_core.specs.declared.battle.start.BattleFault.TheVariants.{NoWarrior, TooMany}
use Rattle.redcode_text.specs.Tokens.{Scanned, scanned}
use Rattle.redcode_text.specs.Expression.{value_of, tree_within}
use Rattle.redcode_text.specs.declared.fault.ExprFault.TheVariants.{Range}
use Rattle.redcode_asm.specs.Formula.{formula_of}
use Rattle.mars_match.specs.Battles.{survivors_of_round, end_of}
use Rattle.mars_match.specs.Placement.{drawn, starts_of, next_seed}
use Rattle.mars_match.specs.Rounds.{table_of}
use Rattle.mars_match.specs.Leagues.{league_of}
use Rattle.mars_match.specs.Tables.{RowValue}
use Rattle.mars_match.specs.declared.fault.MatchFault.TheVariants as fault
use Rattle.mars_match.specs.Examples.Listings.{row_of}
use Rattle.mars_match.specs.Examples.Placements.{sizes}

abbrev pub one_cell : Op → Modifier → ℕ → ℕ → WarriorValue
one_cell op modifier a b = record {
  name = codes "W";
  author = [];
  cells = record { op = op; modifier = modifier; a_mode = Direct; a = a; b_mode = Direct; b = b } ∷ [];
  start = 0;
}

-- MOV.I $1, $2 copies an empty cell to the address two cells ahead.
abbrev shot : WarriorValue
shot = one_cell Mov I 1 2

-- JMP.B $0, $0 and DAT.F $0, $0.
abbrev pub stay : WarriorValue
stay = one_cell Jmp B 0 0

abbrev pub dead : WarriorValue
dead = one_cell Dat F 0 0

-- A row with the given points, wins, ties and losses.
abbrev fared : ℤ → ℕ → ℕ → ℕ → RowValue
fared points wins ties losses = row_of (codes "W") [] points wins ties losses

-- In a core of five cells, one `shot` is at 0 and the other one at 2. The first one hits the other one if it has the
-- first turn. In round 1 the other one has the first turn, and its process has left the cell when it is hit.
pub first_turns_change : (survivors_of_round (sizes 5 2) (shot ∷ shot ∷ []) (0 ∷ 2 ∷ []) 0 ≡ true ∷ false ∷ [])
    × (survivors_of_round (sizes 5 2) (shot ∷ shot ∷ []) (0 ∷ 2 ∷ []) 1 ≡ true ∷ true ∷ [])
    × (survivors_of_round (sizes 5 2) (shot ∷ shot ∷ []) (0 ∷ 2 ∷ []) 2 ≡ true ∷ false ∷ [])
unfolding survivors_of_round end_of start_state turn_of executed accepted execution_of effect_of evaluated direct_operand address_after fold write_cell advanced ends
first_turns_change = (refl, refl, refl)

-- The survivors are in load order, whichever warrior has the first turn.
pub survivors_are_in_load_order : (survivors_of_round (sizes 8 2) (dead ∷ stay ∷ stay ∷ []) (0 ∷ 2 ∷ 4 ∷ []) 1 ≡ false ∷ true ∷ true ∷ [])
    × (survivors_of_round (sizes 8 2) (dead ∷ stay ∷ stay ∷ []) (0 ∷ 2 ∷ 4 ∷ []) 2 ≡ false ∷ true ∷ true ∷ [])
unfolding survivors_of_round end_of start_state turn_of executed accepted execution_of effect_of evaluated direct_operand address_after fold write_cell advanced ends
survivors_are_in_load_order = (refl, refl)

-- The formula of a text.
abbrev formula : List ℕ → Scanned
formula text = elim (formula_of text) [ Ok f ↦ f | Err e ↦ record { tokens = []; names = [] } ]

-- With a fixed position nothing is drawn, and the seed is not checked.
pub second_warrior_is_fixed : table_of (sizes 5 2) (shot ∷ shot ∷ []) (formula (codes "(W*W-1)/S")) (Some 2) 1 0 ≡ Ok (fared (pos 3) 1 0 0 ∷ fared (pos 0) 0 0 1 ∷ [])
unfolding table_of survivors_of_round end_of start_state overlap scanned value_of tree_within turn_of executed accepted execution_of effect_of evaluated direct_operand address_after fold write_cell advanced ends
second_warrior_is_fixed = refl

-- The second warrior starts at 3. In the next round, which uses the seed that the first one left, it starts at 2. Both
-- warriors survive each round.
pub rounds_go_on_from_the_seed : table_of (sizes 5 2) (shot ∷ shot ∷ []) (formula (codes "(W*W-1)/S")) None 2 282475249 ≡ Ok (fared (pos 2) 0 2 0 ∷ fared (pos 2) 0 2 0 ∷ [])
unfolding table_of starts_of drawn next_seed survivors_of_round end_of start_state overlap scanned value_of tree_within turn_of executed accepted execution_of effect_of evaluated direct_operand address_after fold write_cell advanced ends
rounds_go_on_from_the_seed = refl

-- A single warrior wins if it survives. If no warrior survives, the formula is not evaluated.
pub lone_warriors :
    (table_of (sizes 4 2) (stay ∷ []) (formula (codes "7/S")) None 2 1 ≡ Ok (fared (pos 14) 2 0 0 ∷ []))
    × (table_of (sizes 4 2) (dead ∷ []) (formula (codes "7/S")) None 2 1 ≡ Ok (fared (pos 0) 0 0 2 ∷ []))
unfolding table_of starts_of next_seed survivors_of_round end_of start_state overlap scanned value_of tree_within turn_of executed accepted execution_of effect_of evaluated direct_operand address_after fold write_cell advanced ends
lone_warriors = (refl, refl)

-- Surviving with two others is a tie, too.
pub three_live : table_of (sizes 8 2) (stay ∷ stay ∷ stay ∷ []) (formula (codes "(W*W-1)/S")) None 1 1 ≡ Ok (fared (pos 2) 0 1 0 ∷ fared (pos 2) 0 1 0 ∷ fared (pos 2) 0 1 0 ∷ [])
unfolding table_of starts_of drawn next_seed survivors_of_round end_of start_state overlap scanned value_of tree_within turn_of executed accepted execution_of effect_of evaluated direct_operand address_after fold write_cell advanced ends
three_live = refl

-- Points are exact until the end, and then must fit a signed 64-bit number, also in a league.
pub points_are_checked :
    (table_of (sizes 4 2) (stay ∷ []) (formula (codes "9223372036854775807")) None 1 1 ≡ Ok (fared (pos 9223372036854775807) 1 0 0 ∷ []))
    × (table_of (sizes 4 2) (stay ∷ []) (formula (codes "4611686018427387904")) None 2 1 ≡ Err (fault.Score Range))
    × (table_of (sizes 4 2) (stay ∷ []) (formula (codes "-9223372036854775807-1")) None 1 1 ≡ Ok (fared (negsuc 9223372036854775807) 1 0 0 ∷ []))
    × (table_of (sizes 4 2) (stay ∷ []) (formula (codes "-9223372036854775807-1")) None 2 1 ≡ Err (fault.Score Range))
    × (league_of (sizes 4 2) (stay ∷ stay ∷ stay ∷ []) (formula (codes "4611686018427387904")) None 1 1 ≡ Err (fault.Score Range))
unfolding league_of table_of starts_of drawn next_seed survivors_of_round end_of start_state overlap scanned value_of tree_within turn_of executed accepted execution_of effect_of evaluated direct_operand address_after fold write_cell advanced ends
points_are_checked = (refl, refl, refl, refl, refl)

-- No warrior, or more than 16, is reported before an invalid seed.
pub warriors_are_counted :
    (table_of (sizes 8000 100) [] (formula (codes "1")) None 1 0 ≡ Err (fault.Battle NoWarrior))
    × (table_of (sizes 8000 100) (replicate 17 stay) (formula (codes "1")) None 1 0 ≡ Err (fault.Battle TooMany))
unfolding table_of scanned
warriors_are_counted = (refl, refl)
