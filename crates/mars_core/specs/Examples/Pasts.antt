-- The past of cells after turns.
use Rattle.std.specs.Prelude.{◌≡◌, ℕ, List, [], ◌∷◌, map, refl}
use Rattle.std.specs.List.{range_with_len}
use Rattle.mars_cell.specs.declared.instruction.Op.TheVariants.{Mov, Add}
use Rattle.mars_cell.specs.declared.instruction.Modifier.TheVariants.{Ab, I}
use Rattle.mars_cell.specs.declared.instruction.Mode.TheVariants.{Immediate, Direct, BPredecrement}
use Rattle.mars_core.specs.Past.{copy_by, followed, pasts_after}
use Rattle.mars_core.specs.declared.past.Past.{Past}
use Rattle.mars_core.specs.Examples.{the_machine, battle_of, cell_of, numbers, imp, of_eight, eight, lone}

-- The past of a cell that was loaded at `address` and that no turn has changed; 9 stands for no warrior.
abbrev pub loaded : ℕ → Past
loaded address = record { owner = 9; turn = 0; origin = address }

abbrev pub all_loaded : List Past
all_loaded = map loaded (range_with_len 0 8)

abbrev pub past : ℕ → ℕ → ℕ → Past
past owner turn origin = record { owner = owner; turn = turn; origin = origin }

-- Each imp is a copy of the imp before it, and so has the origin of the first imp.
pub copies_of_a_copy_have_its_origin : followed 3 (lone of_eight (eight (imp ∷ [])) (0 ∷ [])) all_loaded
    ≡ loaded 0 ∷ past 0 1 0 ∷ past 0 2 0 ∷ past 0 3 0 ∷ loaded 4 ∷ loaded 5 ∷ loaded 6 ∷ loaded 7 ∷ []
unfolding the_machine copy_by pasts_after
copies_of_a_copy_have_its_origin = refl

-- The first warrior copies cell 0 over the equal cell 1, which the second warrior copies to cell 2. So cell 2 has the
-- origin of cell 0, and the second warrior is its owner.
pub each_turn_is_of_its_warrior : followed 2 (battle_of of_eight (eight (imp ∷ imp ∷ [])) ((0 ∷ []) ∷ (1 ∷ []) ∷ [])) all_loaded
    ≡ loaded 0 ∷ past 9 0 0 ∷ past 1 2 0 ∷ loaded 3 ∷ loaded 4 ∷ loaded 5 ∷ loaded 6 ∷ loaded 7 ∷ []
unfolding the_machine copy_by pasts_after
each_turn_is_of_its_warrior = refl

-- `ADD.AB #1, $1` changes a number: the cell has a new owner, and its old origin.
pub sums_are_no_copies : followed 1 (lone of_eight (eight (cell_of Add Ab Immediate 1 Direct 1 ∷ [])) (0 ∷ [])) all_loaded
    ≡ loaded 0 ∷ past 0 1 1 ∷ loaded 2 ∷ loaded 3 ∷ loaded 4 ∷ loaded 5 ∷ loaded 6 ∷ loaded 7 ∷ []
unfolding the_machine copy_by pasts_after
sums_are_no_copies = refl

-- `MOV.I $2, $3` copies an equal cell: nothing changes, but cell 3 now has the origin of cell 2.
pub equal_copies_are_no_changes : followed 1 (lone of_eight (eight (cell_of Mov I Direct 2 Direct 3 ∷ [])) (0 ∷ [])) all_loaded
    ≡ loaded 0 ∷ loaded 1 ∷ loaded 2 ∷ loaded 2 ∷ loaded 4 ∷ loaded 5 ∷ loaded 6 ∷ loaded 7 ∷ []
unfolding the_machine copy_by pasts_after
equal_copies_are_no_changes = refl

-- `MOV.I <1, $3`: cell 1 is decremented, and leads to the cell that is copied.
pub what_is_copied_is_found_after_the_decrement : followed 1 (lone of_eight (eight (cell_of Mov I BPredecrement 1 Direct 3 ∷ numbers 0 4 ∷ numbers 5 5 ∷ numbers 6 6 ∷ numbers 7 7 ∷ [])) (0 ∷ [])) all_loaded
    ≡ loaded 0 ∷ past 0 1 1 ∷ loaded 2 ∷ past 0 1 4 ∷ loaded 4 ∷ loaded 5 ∷ loaded 6 ∷ loaded 7 ∷ []
unfolding the_machine copy_by pasts_after
what_is_copied_is_found_after_the_decrement = refl
