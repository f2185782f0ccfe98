-- Examples: the fates of three warriors in two rounds, and what two warriors do in three cycles.
use Rattle.std.specs.Prelude.{◌≡◌, ℕ, Bool, true, false, List, [], ◌∷◌, refl}
use Rattle.mars_cell.specs.Parameters.{Parameters}
use Rattle.mars_cell.specs.Warriors.{WarriorValue}
use Rattle.mars_cell.specs.declared.instruction.Modifier.TheVariants.{B, I}
use Rattle.mars_cell.specs.declared.instruction.Op.TheVariants.{Mov, Spl}
use Rattle.mars_core.specs.Addresses.{address_after, fold}
use Rattle.mars_core.specs.Writes.{write_cell}
use Rattle.mars_core.specs.Operand.{evaluated, direct_operand}
use Rattle.mars_core.specs.Effect.{effect_of}
use Rattle.mars_core.specs.Touched.{touched}
use Rattle.mars_core.specs.Turn.{turn_of, turn_record, executed, accepted, execution_of}
use Rattle.mars_core.specs.State.{advanced, ends}
use Rattle.mars_core.specs.Start.{start_state}
use Rattle.mars_match.specs.Battles.{end_of, round_start}
use Rattle.mars_match.specs.Counts.{counts_of, turns_to_end}
use Rattle.mars_match.specs.Fates.{deeds_of, fates_from, no_counts, place_of}
use Rattle.mars_match.specs.declared.fates.Fate.{Fate}
use Rattle.mars_match.specs.Examples.Placements.{sizes}
use Rattle.mars_match.specs.Examples.Rounds.{dead, one_cell, stay}

abbrev fate : Bool → ℕ → ℕ → Fate
fate survived turns start = record { survived = survived; turns = turns; start = start; counts = no_counts }

abbrev fates_in : ℕ → ℕ → List Fate
fates_in round first =
    let s = round_start (sizes 6 2) (stay ∷ dead ∷ stay ∷ []) (0 ∷ 2 ∷ 4 ∷ []) round in
    fates_from (end_of s) (deeds_of false s) first 0 (0 ∷ 2 ∷ 4 ∷ [])

-- The second of three warriors dies in its first turn, which is the second turn of round 0 and the first turn of round 1.
pub the_second_dies : (fates_in 0 0 ≡ fate true 3 0 ∷ fate false 2 2 ∷ fate true 3 4 ∷ []) × (fates_in 1 1 ≡ fate true 3 0 ∷ fate false 1 2 ∷ fate true 3 4 ∷ [])
unfolding end_of start_state turn_of executed accepted execution_of effect_of evaluated direct_operand address_after fold write_cell advanced ends
the_second_dies = (refl, refl)

-- If the second of three warriors has the first turn, the first warrior has the last one.
pub places_in_the_order_of_turns : (place_of 3 1 1 ≡ 0) × (place_of 3 1 2 ≡ 1) × (place_of 3 1 0 ≡ 2)
places_in_the_order_of_turns = (refl, refl, refl)

-- MOV.I $0, $1 and SPL.B $0, $0.
abbrev imp : WarriorValue
imp = one_cell Mov I 0 1

abbrev splitter : WarriorValue
splitter = one_cell Spl B 0 0

abbrev three_cycles : Parameters
three_cycles = record {
  core_size = 8;
  processes = 2;
  cycles = 3;
  read_limit = 8;
  write_limit = 8;
  max_length = 1;
  distance = 2;
}

-- The imp at 0 executes three cells, writes the three after its own, and touches four. The splitter at 4 splits in its first and
-- third turn; in its second turn a process executes the empty cell after it.
pub deeds_in_three_cycles : (counts_of (round_start three_cycles (imp ∷ splitter ∷ []) (0 ∷ 4 ∷ []) 0) 0 ≡ record { turns = 3; spawned = 0; executed = 3; written = 3; touched = 4 })
    × (counts_of (round_start three_cycles (imp ∷ splitter ∷ []) (0 ∷ 4 ∷ []) 0) 1 ≡ record { turns = 3; spawned = 2; executed = 2; written = 0; touched = 2 })
unfolding counts_of turns_to_end start_state turn_of turn_record touched executed accepted execution_of effect_of evaluated direct_operand address_after fold write_cell advanced ends
deeds_in_three_cycles = (refl, refl)

-- In round 1 the splitter has the first turn. Each warrior has its own counts.
pub counts_in_load_order :
    (let s = round_start three_cycles (imp ∷ splitter ∷ []) (0 ∷ 4 ∷ []) 1 in fates_from (end_of s) (deeds_of true s) 1 0 (0 ∷ 4 ∷ []))
    ≡ record { survived = true; turns = 6; start = 0; counts = record { turns = 3; spawned = 0; executed = 3; written = 3; touched = 4 } }
    ∷ record { survived = true; turns = 6; start = 4; counts = record { turns = 3; spawned = 2; executed = 2; written = 0; touched = 2 } } ∷ []
unfolding end_of counts_of turns_to_end start_state turn_of turn_record touched executed accepted execution_of effect_of evaluated direct_operand address_after fold write_cell advanced ends
counts_in_load_order = refl
