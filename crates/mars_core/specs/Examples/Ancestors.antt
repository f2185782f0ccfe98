-- Where processes come from.
use Rattle.std.specs.Prelude.{◌≡◌, ℕ, List, [], ◌∷◌, refl}
use Rattle.mars_cell.specs.declared.instruction.Cell.{Cell}
use Rattle.mars_cell.specs.declared.instruction.Op.TheVariants.{Jmp, Spl}
use Rattle.mars_cell.specs.declared.instruction.Modifier.TheVariants.{B}
use Rattle.mars_cell.specs.declared.instruction.Mode.TheVariants.{Direct}
use Rattle.mars_core.specs.Ancestors.{Lineage, lineage}
use Rattle.mars_core.specs.State.{State}
use Rattle.mars_core.specs.Examples.{the_machine, battle_of, cell_of, eight, lone, lone_after, of_eight, sizes}

-- `SPL $0`, then `JMP $0`. The process that splits continues at the jump, where it stays; the new process splits again.
abbrev splitting : List Cell
splitting = eight (cell_of Spl B Direct 0 Direct 0 ∷ cell_of Jmp B Direct 0 Direct 0 ∷ [])

abbrev descent : List ℕ → ℕ → Lineage
descent births place = record { births = births; place = place }

-- Turn 1 splits, turn 2 jumps, and turn 3 splits: the queue has the first process, its child, and the child's child.
abbrev splitting_alone : State
splitting_alone = lone of_eight splitting (0 ∷ [])

pub the_process_that_splits_goes_on : lineage 3 splitting_alone 0 0 ≡ descent [] 0
unfolding the_machine
the_process_that_splits_goes_on = refl

pub a_child_is_born_where_it_is_queued_second : lineage 3 splitting_alone 0 1 ≡ descent (1 ∷ []) 0
unfolding the_machine
a_child_is_born_where_it_is_queued_second = refl

pub the_last_birth_is_first : lineage 3 splitting_alone 0 2 ≡ descent (3 ∷ 1 ∷ []) 0
unfolding the_machine
the_last_birth_is_first = refl

-- The number of a turn includes the turns that the battle executed before.
pub births_are_turns_of_the_battle : lineage 1 (lone_after of_eight splitting (0 ∷ [])) 0 1 ≡ descent (2 ∷ []) 0
unfolding the_machine
births_are_turns_of_the_battle = refl

-- A second process is not queued if the queue is full.
pub no_birth_in_a_full_queue : lineage 1 (lone (sizes 8 1 8 8) splitting (0 ∷ [])) 0 0 ≡ descent [] 0
unfolding the_machine
no_birth_in_a_full_queue = refl

-- In turn 1 the process at the front dies, at a DAT. The process at place 1 of the queue moves up and splits in turn 2.
pub processes_move_up_after_a_death : lineage 2 (lone of_eight splitting (7 ∷ 0 ∷ [])) 0 1 ≡ descent (2 ∷ []) 1
unfolding the_machine
processes_move_up_after_a_death = refl

-- Turn 1 is of the first warrior, turn 2 of the second one.
abbrev two_splitting : State
two_splitting = battle_of of_eight splitting ((0 ∷ []) ∷ (1 ∷ 0 ∷ []) ∷ [])

pub turns_of_others_are_left_out : lineage 4 two_splitting 1 2 ≡ descent (4 ∷ []) 1
unfolding the_machine
turns_of_others_are_left_out = refl

-- The battle ends after ten cycles of one turn each.
pub no_births_after_the_end : lineage 12 (lone (sizes 8 2 8 8) splitting (0 ∷ [])) 0 1 ≡ lineage 10 (lone (sizes 8 2 8 8) splitting (0 ∷ [])) 0 1
unfolding the_machine
no_births_after_the_end = refl
