-- Edits of cells and processes, and their errors.
use Rattle.std.specs.Prelude.{◌≡◌, ℕ, List, [], ◌∷◌, None, Some, refl}
use Rattle.mars_cell.specs.declared.instruction.Cell.{Cell}
use Rattle.mars_cell.specs.declared.instruction.Op.TheVariants.{Jmp, Nop}
use Rattle.mars_cell.specs.declared.instruction.Modifier.TheVariants.{B, F}
use Rattle.mars_cell.specs.declared.instruction.Mode.TheVariants.{Direct}
use Rattle.mars_cell.specs.Cells.{empty_cell}
use Rattle.mars_core.specs.State.{State}
use Rattle.mars_core.specs.Turn.{turn_of}
use Rattle.mars_core.specs.Edit.{edited, edit_fault}
use Rattle.mars_core.specs.Examples.{the_machine, cell_of, numbers, sizes, of_eight, eight, battle_of, lone, lone_after, IsEdit}
use Rattle.mars_core.specs.declared.battle.edit.Edit.TheVariants.{SetCell, KillProcess, MoveProcess, Spawn}
use Rattle.mars_core.specs.declared.battle.edit.EditFault.TheVariants.{Address, FieldOutside, NoSuchWarrior, NoSuchProcess, WarriorDead, QueueFull}

-- `JMP.B $0, $0`.
abbrev waiting : Cell
waiting = cell_of Jmp B Direct 0 Direct 0

-- Three warriors that wait.
abbrev three : State
three = battle_of of_eight (eight (waiting ∷ empty_cell ∷ waiting ∷ empty_cell ∷ waiting ∷ [])) ((0 ∷ []) ∷ (2 ∷ []) ∷ (4 ∷ []) ∷ [])

pub kill_of_the_next_warrior_moves_on : IsEdit (turn_of three) (KillProcess 1 0)
    (record (battle_of of_eight three.core ((0 ∷ []) ∷ [] ∷ (4 ∷ []) ∷ [])) { next = 2; turns = 1; deaths = record { warrior = 1; turns = 1 } ∷ [] })
unfolding the_machine
kill_of_the_next_warrior_moves_on = record { state = refl; back = refl; forth = refl }

pub kill_of_a_later_warrior_leaves_next : IsEdit three (KillProcess 2 0)
    (record (battle_of of_eight three.core ((0 ∷ []) ∷ (2 ∷ []) ∷ [] ∷ [])) { deaths = record { warrior = 2; turns = 0 } ∷ [] })
unfolding the_machine
kill_of_a_later_warrior_leaves_next = record { state = refl; back = refl; forth = refl }

-- The battle after two turns and an edit that kills the next warrior.
abbrev last_killed : State
last_killed = edited (turn_of (turn_of three)) (KillProcess 2 0)

pub kill_of_the_last_warrior_adds_a_cycle : IsEdit (turn_of (turn_of three)) (KillProcess 2 0)
    (record (battle_of of_eight three.core ((0 ∷ []) ∷ (2 ∷ []) ∷ [] ∷ [])) { cycle = 1; turns = 2; deaths = record { warrior = 2; turns = 2 } ∷ [] })
unfolding the_machine
kill_of_the_last_warrior_adds_a_cycle = record { state = refl; back = refl; forth = refl }

pub deaths_are_in_order : IsEdit last_killed (KillProcess 0 0)
    (record (battle_of of_eight three.core ([] ∷ (2 ∷ []) ∷ [] ∷ [])) {
      next = 1;
      cycle = 1;
      turns = 2;
      deaths = record { warrior = 2; turns = 2 } ∷ record { warrior = 0; turns = 2 } ∷ [];
    })
unfolding the_machine
deaths_are_in_order = record { state = refl; back = refl; forth = refl }

-- A queue with a capacity of three.
abbrev queue : List ℕ → State
queue processes = lone (sizes 8 3 8 8) (eight (waiting ∷ [])) processes

pub spawn_is_the_last : IsEdit (queue (0 ∷ 1 ∷ [])) (Spawn 0 2) (queue (0 ∷ 1 ∷ 2 ∷ []))
unfolding the_machine
spawn_is_the_last = record { state = refl; back = refl; forth = refl }

pub full_queue_takes_no_spawn : edit_fault (queue (0 ∷ 1 ∷ 2 ∷ [])) (Spawn 0 3) ≡ Some QueueFull
unfolding the_machine
full_queue_takes_no_spawn = refl

pub dead_warrior_takes_no_spawn : edit_fault (queue []) (Spawn 0 3) ≡ Some WarriorDead
unfolding the_machine
dead_warrior_takes_no_spawn = refl

pub dead_warrior_has_no_process : edit_fault (queue []) (KillProcess 0 0) ≡ Some NoSuchProcess
unfolding the_machine
dead_warrior_has_no_process = refl

pub kill_in_the_middle : IsEdit (queue (0 ∷ 1 ∷ 2 ∷ [])) (KillProcess 0 1) (queue (0 ∷ 2 ∷ []))
unfolding the_machine
kill_in_the_middle = record { state = refl; back = refl; forth = refl }

pub kill_at_the_front : IsEdit (queue (1 ∷ 5 ∷ 0 ∷ [])) (KillProcess 0 0) (queue (5 ∷ 0 ∷ []))
unfolding the_machine
kill_at_the_front = record { state = refl; back = refl; forth = refl }

pub moved_process_keeps_its_place : IsEdit (queue (0 ∷ 1 ∷ 2 ∷ [])) (MoveProcess 0 2 5) (queue (0 ∷ 1 ∷ 5 ∷ []))
unfolding the_machine
moved_process_keeps_its_place = record { state = refl; back = refl; forth = refl }

pub moved_front_stays_the_front : IsEdit (queue (0 ∷ 1 ∷ 2 ∷ [])) (MoveProcess 0 0 5) (queue (5 ∷ 1 ∷ 2 ∷ []))
unfolding the_machine
moved_front_stays_the_front = record { state = refl; back = refl; forth = refl }

pub process_that_waits_goes_to_the_end : turn_of (queue (0 ∷ 1 ∷ 5 ∷ []))
    ≡ lone_after (sizes 8 3 8 8) (eight (waiting ∷ [])) (1 ∷ 5 ∷ 0 ∷ [])
unfolding the_machine
process_that_waits_goes_to_the_end = refl

pub cell_is_set : IsEdit (queue (0 ∷ [])) (SetCell 1 (cell_of Nop F Direct 7 Direct 0))
    (lone (sizes 8 3 8 8) (eight (waiting ∷ cell_of Nop F Direct 7 Direct 0 ∷ [])) (0 ∷ []))
unfolding the_machine
cell_is_set = record { state = refl; back = refl; forth = refl }

-- An error of the address comes before an error of the cell's numbers or of the warrior, and an error of the warrior
-- before an error of the process.
pub first_fault_of_an_edit :
    (edit_fault (queue (0 ∷ [])) (SetCell 8 (numbers 8 8)) ≡ Some Address)
    × (edit_fault (queue (0 ∷ [])) (SetCell 7 (numbers 8 0)) ≡ Some FieldOutside)
    × (edit_fault (queue (0 ∷ [])) (SetCell 7 (numbers 0 8)) ≡ Some FieldOutside)
    × (edit_fault (queue (0 ∷ [])) (SetCell 7 (numbers 7 7)) ≡ None)
    × (edit_fault (queue (0 ∷ [])) (MoveProcess 1 0 8) ≡ Some Address)
    × (edit_fault (queue (0 ∷ [])) (MoveProcess 1 0 7) ≡ Some NoSuchWarrior)
    × (edit_fault (queue (0 ∷ [])) (MoveProcess 0 1 7) ≡ Some NoSuchProcess)
    × (edit_fault (queue (0 ∷ [])) (KillProcess 1 0) ≡ Some NoSuchWarrior)
    × (edit_fault (queue (0 ∷ [])) (KillProcess 0 1) ≡ Some NoSuchProcess)
    × (edit_fault (queue (0 ∷ [])) (Spawn 1 8) ≡ Some Address)
    × (edit_fault (queue (0 ∷ [])) (Spawn 1 7) ≡ Some NoSuchWarrior)
unfolding the_machine
first_fault_of_an_edit = (refl, refl, refl, refl, refl, refl, refl, refl, refl, refl, refl)
