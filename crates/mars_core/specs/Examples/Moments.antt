-- Moments of a battle: cells and processes of each warrior after steps of turns, and how many turns meet a condition.
use Rattle.std.specs.Prelude.{◌≡◌, ℕ, List, [], ◌∷◌, ◌++◌, refl}
use Rattle.std.proofs.Common.{replicate}
use Rattle.mars_core.specs.Moments.{moments_after}
use Rattle.mars_core.specs.Past.{copy_by, pasts_after}
use Rattle.mars_core.specs.declared.search.Number.TheVariants.{Warrior}
use Rattle.mars_core.specs.declared.search.Way.TheVariants.{Executes}
use Rattle.mars_core.specs.Examples.{the_machine}
use Rattle.mars_core.specs.Examples.Pasts.{all_loaded}
use Rattle.mars_core.specs.Examples.Searches.{two_imps, where_}

-- The numbers of cells by owner: `second` for the second warrior, and `others` for 9, which stands for no warrior.
abbrev owned : ℕ → ℕ → List ℕ
owned second others = 0 ∷ second ∷ replicate 7 0 ++ others ∷ replicate 6 0

-- Two imps, in steps of three turns. The second imp has turns 2, 4 and 6, and copies itself to a new cell in each. The
-- first imp follows the second imp and changes nothing.
pub moments_are_after_each_step : moments_after 2 3 (where_ Executes Warrior 1 1 ∷ []) two_imps all_loaded
    ≡ record { turns = 3; found = 1; cells = owned 1 7; processes = 1 ∷ 1 ∷ replicate 14 0 }
    ∷ record { turns = 6; found = 2; cells = owned 3 5; processes = 1 ∷ 1 ∷ replicate 14 0 } ∷ []
unfolding the_machine copy_by pasts_after
moments_are_after_each_step = refl
