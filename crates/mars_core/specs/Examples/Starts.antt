-- How warriors are loaded into the core, and the errors for which they are not.
use Rattle.std.specs.Prelude.{◌≡◌, ℕ, List, [], ◌∷◌, None, Some, refl}
use Rattle.std.proofs.Common.{replicate}
use Rattle.mars_cell.specs.declared.instruction.Cell.{Cell}
use Rattle.mars_cell.specs.declared.instruction.Op.TheVariants.{Jmp, Nop}
use Rattle.mars_cell.specs.declared.instruction.Modifier.TheVariants.{B, F}
use Rattle.mars_cell.specs.declared.instruction.Mode.TheVariants.{Direct}
use Rattle.mars_cell.specs.Cells.{empty_cell}
use Rattle.mars_cell.specs.Warriors.{WarriorValue}
use Rattle.mars_core.specs.Start.{start_fault, start_state}
use Rattle.mars_core.specs.Examples.{the_machine, cell_of, numbers, sizes, of_eight, battle_of}
use Rattle.mars_core.specs.declared.battle.start.BattleFault.TheVariants.{NoWarrior, TooMany, Overlap, StartOutside, FieldOutside}

-- A warrior with `cells`, which starts at the cell with index `start`.
abbrev warrior : List Cell → ℕ → WarriorValue
warrior cells start = record { name = []; author = []; cells = cells; start = start }

abbrev nop : ℕ → Cell
nop a = cell_of Nop F Direct a Direct 0

abbrev jmp : ℕ → Cell
jmp a = cell_of Jmp B Direct a Direct 0

-- Three warriors. The first starts at its second cell; loaded at address 7, it extends past the end of the core.
abbrev three : List WarriorValue
three = warrior (nop 1 ∷ nop 2 ∷ []) 1 ∷ warrior (jmp 1 ∷ jmp 2 ∷ jmp 3 ∷ []) 2 ∷ warrior (numbers 4 4 ∷ []) 0 ∷ []

pub warriors_lie_round_the_end : start_state of_eight three (7 ∷ 2 ∷ 5 ∷ [])
    ≡ battle_of of_eight (nop 2 ∷ empty_cell ∷ jmp 1 ∷ jmp 2 ∷ jmp 3 ∷ numbers 4 4 ∷ empty_cell ∷ nop 1 ∷ []) ((0 ∷ []) ∷ (4 ∷ []) ∷ (5 ∷ []) ∷ [])
unfolding the_machine
warriors_lie_round_the_end = refl

pub they_start : start_fault of_eight three (7 ∷ 2 ∷ 5 ∷ []) ≡ None
unfolding the_machine
they_start = refl

pub they_overlap_by_one_cell : start_fault of_eight three (7 ∷ 3 ∷ 5 ∷ []) ≡ Some Overlap
unfolding the_machine
they_overlap_by_one_cell = refl

-- Overlap is checked past the end of the core, and before the starting positions are checked.
pub overlap_comes_before_a_start_outside : start_fault of_eight (warrior (nop 0 ∷ []) 0 ∷ warrior (nop 0 ∷ []) 0 ∷ []) (0 ∷ 8 ∷ []) ≡ Some Overlap
unfolding the_machine
overlap_comes_before_a_start_outside = refl

pub warrior_longer_than_the_core_overlaps_itself : start_fault of_eight (warrior (replicate 9 empty_cell) 0 ∷ []) (0 ∷ []) ≡ Some Overlap
unfolding the_machine
warrior_longer_than_the_core_overlaps_itself = refl

pub start_outside : start_fault of_eight (warrior (nop 8 ∷ []) 0 ∷ []) (8 ∷ []) ≡ Some StartOutside
unfolding the_machine
start_outside = refl

pub field_outside : start_fault of_eight (warrior (nop 8 ∷ []) 0 ∷ []) (7 ∷ []) ≡ Some FieldOutside
unfolding the_machine
field_outside = refl

-- The B-number is checked, too, and so are the numbers of later warriors.
pub each_field_is_checked :
    (start_fault of_eight (warrior (numbers 0 8 ∷ []) 0 ∷ []) (7 ∷ []) ≡ Some FieldOutside)
    × (start_fault of_eight (warrior (nop 0 ∷ []) 0 ∷ warrior (nop 0 ∷ nop 8 ∷ []) 0 ∷ []) (0 ∷ 1 ∷ []) ≡ Some FieldOutside)
unfolding the_machine
each_field_is_checked = (refl, refl)

pub no_warrior : start_fault of_eight [] [] ≡ Some NoWarrior
unfolding the_machine
no_warrior = refl

pub sixteen_warriors_start : start_fault (sizes 16 1 16 16) (replicate 16 (warrior (nop 0 ∷ []) 0)) (0 ∷ 1 ∷ 2 ∷ 3 ∷ 4 ∷ 5 ∷ 6 ∷ 7 ∷ 8 ∷ 9 ∷ 10 ∷ 11 ∷ 12 ∷ 13 ∷ 14 ∷ 15 ∷ []) ≡ None
unfolding the_machine
sixteen_warriors_start = refl

pub seventeen_warriors_are_too_many : start_fault of_eight (replicate 17 (warrior (nop 0 ∷ []) 0)) (replicate 17 0) ≡ Some TooMany
unfolding the_machine
seventeen_warriors_are_too_many = refl
