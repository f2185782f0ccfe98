-- Searches for turns.
use Rattle.std.specs.Prelude.{◌≡◌, ℕ, [], ◌∷◌, true, false, refl}
use Rattle.mars_cell.specs.declared.instruction.Op.TheVariants.{Add, Jmp, Mov, Spl}
use Rattle.mars_cell.specs.declared.instruction.Modifier.TheVariants.{Ab, B, I}
use Rattle.mars_cell.specs.declared.instruction.Mode.TheVariants.{Immediate, Direct, BPostincrement}
use Rattle.mars_core.specs.Past.{copy_by, pasts_after}
use Rattle.mars_core.specs.Search.{filled, found_in, is_within, meets}
use Rattle.mars_core.specs.State.{State}
use Rattle.mars_core.specs.declared.past.Past.{Past}
use Rattle.mars_core.specs.declared.search.Condition.{Condition}
use Rattle.mars_core.specs.declared.search.Found.{Found}
use Rattle.mars_core.specs.declared.search.Number.{Number}
use Rattle.mars_core.specs.declared.search.Number.TheVariants.{Warrior, Queued, Address, Origin, Opcode, NewOpcode}
use Rattle.mars_core.specs.declared.search.Way.{Way}
use Rattle.mars_core.specs.declared.search.Way.TheVariants.{Executes, Changes, Reads}
use Rattle.mars_core.specs.Examples.{the_machine, battle_of, cell_of, numbers, imp, of_eight, eight, lone}
use Rattle.mars_core.specs.Examples.Pasts.{all_loaded, loaded, past}

abbrev pub where_ : Way → Number → ℕ → ℕ → Condition
where_ way number first last = record { way = way; number = number; first = first; last = last }

-- What a search finds of a turn of `warrior` that executed `address` and queued one process.
abbrev found : ℕ → ℕ → ℕ → Past → Found
found turn warrior address before = record { turn = turn; warrior = warrior; queued = 1; address = address; past = before }

-- A range whose last number is less than its first one wraps around.
pub ranges_go_around : (is_within 6 1 7 ≡ true) × (is_within 6 1 1 ≡ true) × (is_within 6 1 3 ≡ false) × (is_within 3 3 3 ≡ true)
ranges_go_around = (refl, refl, refl, refl)

-- Two imps in turn. The second imp executes copies of the first, also in its first turn, which is turn 2: its own cell
-- was overwritten with an equal cell.
abbrev pub two_imps : State
two_imps = battle_of of_eight (eight (imp ∷ imp ∷ [])) ((0 ∷ []) ∷ (1 ∷ []) ∷ [])

pub copies_are_found_where_they_are_executed : (found_in (where_ Executes Origin 0 0 ∷ where_ Executes Warrior 1 1 ∷ []) 6 two_imps all_loaded
    ≡ found 2 1 1 (past 9 0 0) ∷ found 4 1 2 (past 1 2 0) ∷ found 6 1 3 (past 1 4 0) ∷ [])
    × (found_in (where_ Changes Address 2 2 ∷ []) 6 two_imps all_loaded ≡ found 2 1 1 (past 9 0 0) ∷ [])
unfolding the_machine copy_by pasts_after
copies_are_found_where_they_are_executed = (refl, refl)

-- `MOV.I $0, >1` changes two cells: the cell that it increments, and the cell that becomes a MOV. No cell is both.
abbrev two_changes : State
two_changes = lone of_eight (eight (cell_of Mov I Direct 0 BPostincrement 1 ∷ numbers 0 3 ∷ [])) (0 ∷ [])

pub conditions_on_a_way_are_about_one_cell : (meets (where_ Changes Address 1 1 ∷ []) two_changes all_loaded ≡ true)
    × (meets (where_ Changes NewOpcode 1 1 ∷ []) two_changes all_loaded ≡ true)
    × (meets (where_ Changes Address 1 1 ∷ where_ Changes NewOpcode 1 1 ∷ []) two_changes all_loaded ≡ false)
    × (meets (where_ Executes Address 0 0 ∷ where_ Changes Opcode 0 0 ∷ where_ Changes NewOpcode 1 1 ∷ []) two_changes all_loaded ≡ true)
unfolding the_machine copy_by pasts_after
conditions_on_a_way_are_about_one_cell = (refl, refl, refl, refl)

-- The turn touches and writes cell 1, so cell 1 is not read.
pub written_cells_are_not_read : (meets (where_ Reads Address 1 1 ∷ []) two_changes all_loaded ≡ false) × (meets (where_ Reads Address 0 0 ∷ []) two_changes all_loaded ≡ true)
unfolding the_machine copy_by pasts_after
written_cells_are_not_read = (refl, refl)

-- `SPL.B $1, $0`: a turn that splits.
pub splits_are_found : found_in (where_ Executes Queued 2 2 ∷ []) 1 (lone of_eight (eight (cell_of Spl B Direct 1 Direct 0 ∷ [])) (0 ∷ [])) all_loaded
    ≡ record { turn = 1; warrior = 0; queued = 2; address = 0; past = loaded 0 } ∷ []
unfolding the_machine copy_by pasts_after
splits_are_found = refl

-- `ADD.AB #1, $0` changes itself: the turn is found with the past that the cell had before this turn.
pub a_past_is_that_before_the_turn : found_in (where_ Changes Address 0 0 ∷ []) 2 (lone of_eight (eight (cell_of Add Ab Immediate 1 Direct 0 ∷ cell_of Jmp B Direct 7 Direct 0 ∷ [])) (0 ∷ [])) all_loaded
    ≡ found 1 0 0 (loaded 0) ∷ []
unfolding the_machine copy_by pasts_after
a_past_is_that_before_the_turn = refl

abbrev at_start : ℕ → Found
at_start turn = found turn 0 0 (loaded 0)

pub rows_are_filled_as_far_as_there_are : (filled (at_start 4 ∷ at_start 6 ∷ []) (at_start 0 ∷ at_start 1 ∷ at_start 2 ∷ []) ≡ at_start 4 ∷ at_start 6 ∷ at_start 2 ∷ [])
    × (filled (at_start 4 ∷ at_start 6 ∷ []) (at_start 0 ∷ []) ≡ at_start 4 ∷ [])
rows_are_filled_as_far_as_there_are = (refl, refl)
