-- Examples: leagues.
use Rattle.std.specs.Prelude.{None, ◌≡◌, ℕ, pos, List, [], ◌∷◌, ◌++◌, map, Ok, Err, codes, refl}
use Rattle.mars_match.specs.Placement.{drawn, starts_of, next_seed}
use Rattle.mars_cell.specs.Warriors.{WarriorValue}
use Rattle.redcode_text.specs.Tokens.{Scanned}
use Rattle.mars_cell.specs.declared.instruction.Op.{Op}
use Rattle.mars_cell.specs.declared.instruction.Op.TheVariants.{Dat, Mov, Jmp}
use Rattle.mars_cell.specs.declared.instruction.Modifier.{Modifier}
use Rattle.mars_cell.specs.declared.instruction.Modifier.TheVariants as modifiers
use Rattle.mars_cell.specs.declared.instruction.Mode.TheVariants.{Direct}
use Rattle.mars_core.specs.Addresses.{address_after, fold, raised, lowered}
use Rattle.mars_core.specs.Writes.{write_cell}
use Rattle.mars_core.specs.Operand.{evaluated, direct_operand}
use Rattle.mars_core.specs.Effect.{effect_of}
use Rattle.mars_core.specs.Turn.{turn_of, executed, accepted, execution_of}
use Rattle.mars_core.specs.State.{advanced, ends}
use Rattle.mars_core.specs.Start.{start_state, overlap}
use Rattle.redcode_text.specs.Tokens.{scanned}
use Rattle.redcode_text.specs.Expression.{value_of, tree_within}
use Rattle.redcode_asm.specs.Formula.{formula_of}
use Rattle.mars_match.specs.Battles.{survivors_of_round, end_of}
use Rattle.mars_match.specs.Rounds.{table_of}
use Rattle.mars_match.specs.Leagues.{all_pairs, placed_rows, own_rows, league_of}
use Rattle.mars_match.specs.declared.fault.MatchFault.TheVariants as fault
use Rattle.mars_match.specs.declared.placement.PlaceFault.TheVariants.{BadSeed}
use Rattle.mars_match.specs.Examples.Listings.{row_of, imp, stay, dead}
use Rattle.mars_match.specs.Examples.Placements.{sizes}

-- A league of fewer than two warriors has no match, so even an invalid seed is no error.
pub league_of_none : (formula : Scanned) → league_of (sizes 8000 100) [] formula None 1 0 ≡ Ok []
unfolding league_of
league_of_none formula = refl

pub league_of_one : (w : WarriorValue) (formula : Scanned) → league_of (sizes 8000 100) (w ∷ []) formula None 1 0 ≡ Ok (row_of w.name w.author (pos 0) 0 0 0 ∷ [])
unfolding league_of
league_of_one w formula = refl

pub pairs_of_three : (a b c : WarriorValue) → map {B = ℕ × ℕ} (λ pair. (pair.first, pair.second)) (all_pairs 0 (a ∷ b ∷ c ∷ [])) ≡ (0, 1) ∷ (0, 2) ∷ (1, 2) ∷ []
pairs_of_three a b c = refl

-- The rows of warrior 1, in the order of the matches.
pub rows_of_one_warrior : own_rows 1 (placed_rows (0 ∷ 1 ∷ []) (imp ∷ stay ∷ []) ++ placed_rows (0 ∷ 2 ∷ []) (imp ∷ dead ∷ []) ++ placed_rows (1 ∷ 2 ∷ []) (stay ∷ dead ∷ [])) ≡ stay ∷ stay ∷ []
rows_of_one_warrior = refl

abbrev by_default : Scanned
by_default = elim (formula_of (codes "(W*W-1)/S")) [ Ok f ↦ f | Err e ↦ record { tokens = []; names = [] } ]

abbrev one_cell : List ℕ → List ℕ → Op → Modifier → ℕ → WarriorValue
one_cell name author op modifier b = record {
  name = name;
  author = author;
  cells = record { op = op; modifier = modifier; a_mode = Direct; a = 0; b_mode = Direct; b = b } ∷ [];
  start = 0;
}

abbrev all_three : List WarriorValue
all_three =
    one_cell (codes "Imp") (codes "Dewdney") Mov modifiers.I 1
    ∷ one_cell (codes "Stay") (codes "Anonymous") Jmp modifiers.B 0
    ∷ one_cell (codes "Dead") (codes "Anonymous") Dat modifiers.F 0 ∷ []

pub league_of_three : league_of (sizes 4 2) all_three by_default None 1 1 ≡ Ok (imp ∷ stay ∷ dead ∷ [])
unfolding league_of table_of starts_of drawn next_seed survivors_of_round end_of start_state overlap scanned value_of tree_within turn_of executed accepted execution_of effect_of evaluated direct_operand address_after fold raised lowered write_cell advanced ends
league_of_three = refl

-- A seed of 0 is an error.
pub league_without_seed : league_of (sizes 4 2) all_three by_default None 1 0 ≡ Err (fault.Place BadSeed)
unfolding league_of table_of
league_without_seed = refl
