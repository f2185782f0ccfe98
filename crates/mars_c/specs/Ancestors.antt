-- The ancestors of a process of a battle in a block, and why they are not found.
use Rattle.std.specs.Prelude.{◌≡◌, ℕ, ⊤, List, length}
use Rattle.mars_core.specs.Ancestors.{HasProcess, lineage}
use Rattle.mars_core.specs.Block.{Spells}
use Rattle.mars_core.specs.Search.{filled}
use Rattle.mars_core.specs.State.{State}
use Rattle.mars_c.specs.Blocks.{RefusesWords}
use Rattle.mars_c.specs.declared.faults.BlockRefusal.{BlockRefusal}
use Rattle.mars_c.specs.declared.faults.BlockRefusal.TheVariants.{OutOfMemory, Block, Capacity, NoSuchEdit, Edit, History, Condition, Pasts, Process}

-- After at most `turns` turns of the battle in `words`, the warrior `warrior` has a process with the index `place`.
-- `rows` begins with the turns in which this process and its ancestors were born, as far as there are rows; the other
-- rows stay. `count` is the number of these turns. `first` is the index of the first of these processes in the battle
-- in `words`.
pub record HasAncestors (turns warrior place : ℕ) (words rows_before rows : List ℕ) (count first : ℕ) : Type 0 where
  pub state : State
  pub spelled : Spells state words
  pub process : HasProcess turns state warrior place
  pub rows_are : rows ≡ filled (lineage turns state warrior place).births rows_before
  pub count_is : count ≡ length (lineage turns state warrior place).births
  pub first_is : first ≡ (lineage turns state warrior place).place

-- `refusal` is a reason for which the ancestors are not found: the words do not begin with the block of a battle, or after the turns the
-- warrior has no process with the index `place`.
abbrev pub RefusesAncestors : ℕ → ℕ → ℕ → List ℕ → BlockRefusal → Type 0
RefusesAncestors turns warrior place words OutOfMemory = ⊤
RefusesAncestors turns warrior place words (Block fault) = RefusesWords words (Block fault)
RefusesAncestors turns warrior place words Process = (s : State) × Spells s words × (HasProcess turns s warrior place → ⊥)
RefusesAncestors turns warrior place words Capacity = ⊥
RefusesAncestors turns warrior place words (NoSuchEdit index) = ⊥
RefusesAncestors turns warrior place words (Edit index fault) = ⊥
RefusesAncestors turns warrior place words History = ⊥
RefusesAncestors turns warrior place words (Condition index) = ⊥
RefusesAncestors turns warrior place words Pasts = ⊥
