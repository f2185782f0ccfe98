-- Following the turns of a battle in a block: the conditions that numbers mean, what is found, moments, and why calls are rejected.
use Rattle.std.specs.Prelude.{◌≡◌, ◌≢◌, ℕ, ◌*◌, ⊤, List, length, map, Some, slice_get, take}
use Rattle.mars_core.specs.Moments.{moments_after}
use Rattle.mars_core.specs.Past.{followed}
use Rattle.mars_core.specs.Search.{filled, found_in}
use Rattle.mars_core.specs.State.{State}
use Rattle.mars_core.specs.Turn.{after_turns}
use Rattle.mars_core.specs.declared.battle.moments.Moment.{Moment}
use Rattle.mars_core.specs.declared.past.Past.{Past}
use Rattle.mars_core.specs.declared.search.Condition.{Condition as ConditionValue}
use Rattle.mars_core.specs.declared.search.Found.{Found}
use Rattle.mars_core.specs.declared.search.Number.{Number}
use Rattle.mars_core.specs.declared.search.Number.TheVariants as number
use Rattle.mars_core.specs.declared.search.Way.{Way}
use Rattle.mars_core.specs.declared.search.Way.TheVariants as way
use Rattle.mars_c.specs.Blocks.{IsPlayable, IsWritten, RefusesPlay}
use Rattle.mars_c.specs.declared.conditions.MarsCondition.{MarsCondition}
use Rattle.mars_c.specs.declared.faults.BlockRefusal.{BlockRefusal}
use Rattle.mars_c.specs.declared.faults.BlockRefusal.TheVariants.{OutOfMemory, Block, Capacity, NoSuchEdit, Edit, History, Condition, Pasts, Process}

-- The value that the field `way` of a MarsCondition has for this way.
abbrev pub way_index : Way → ℕ
way_index way.Executes = 1
way_index way.Changes = 2
way_index way.Reads = 3

-- The value that the field `number` of a MarsCondition has for this number of a turn or a cell.
abbrev pub number_index : Number → ℕ
number_index number.Warrior = 1
number_index number.Queued = 2
number_index number.Died = 3
number_index number.Address = 4
number_index number.Owner = 5
number_index number.Turn = 6
number_index number.Origin = 7
number_index number.Opcode = 8
number_index number.NewOpcode = 9

-- The numbers of a condition.
abbrev pub plain_condition : ConditionValue → MarsCondition
plain_condition condition = record {
  way = way_index condition.way;
  number = number_index condition.number;
  first = condition.first;
  last = condition.last;
}

-- After at most `turns` turns of the battle in the words `before`, the words `after` hold the battle, `pasts` the past
-- of each cell, and `rows` the first of the `count` turns that meet the conditions.
pub record IsFollowed (turns : ℕ) (conditions : List MarsCondition) (before after : List ℕ) (pasts_before pasts : List Past)
    (rows_before rows : List Found) (count : ℕ) : Type 0 where
  pub state : State
  pub playable : IsPlayable state before
  pub values : List ConditionValue
  pub mean : map plain_condition values ≡ conditions
  pub battle : IsWritten (after_turns turns state) before after
  pub pasts_are : pasts ≡ followed turns state pasts_before
  pub rows_are : rows ≡ filled (found_in values turns state pasts_before) rows_before
  pub count_is : count ≡ length (found_in values turns state pasts_before)

-- After `count` steps of at most `step` turns of the battle in the words `before`, the words `after` hold the battle, `pasts` the past of
-- each cell, and `moments`, which has `count` rows, the moment after each step.
pub record HasMoments (step : ℕ) (conditions : List MarsCondition) (before after : List ℕ) (pasts_before pasts : List Past)
    (count : ℕ) (moments : List Moment) : Type 0 where
  pub state : State
  pub playable : IsPlayable state before
  pub values : List ConditionValue
  pub mean : map plain_condition values ≡ conditions
  pub battle : IsWritten (after_turns (count * step) state) before after
  pub pasts_are : pasts ≡ followed (count * step) state pasts_before
  pub moments_are : moments ≡ moments_after count step values state pasts_before

-- Each item of `conditions` means a condition.
abbrev pub AreConditions : List MarsCondition → Type 0
AreConditions conditions = (values : List ConditionValue) × (map plain_condition values ≡ conditions)

-- `refusal` is a reason for which the numbers are no conditions: the numbers at `index` are the first that mean none.
abbrev pub IsNoCondition : List MarsCondition → BlockRefusal → Type 0
IsNoCondition conditions OutOfMemory = ⊤
IsNoCondition conditions (Condition index) = AreConditions (take index conditions) × ((numbers : MarsCondition)
    × (slice_get conditions index ≡ Some numbers) × ((condition : ConditionValue) → plain_condition condition ≢ numbers))
IsNoCondition conditions (Block fault) = ⊥
IsNoCondition conditions Capacity = ⊥
IsNoCondition conditions (NoSuchEdit index) = ⊥
IsNoCondition conditions (Edit index fault) = ⊥
IsNoCondition conditions History = ⊥
IsNoCondition conditions Pasts = ⊥
IsNoCondition conditions Process = ⊥

-- `refusal` is the first reason for which the turns of the battle in the words are not followed: numbers that are no condition, words
-- that cannot be played, or a number of pasts that is not the size of the core.
abbrev pub RefusesFollow : List ℕ → List MarsCondition → ℕ → BlockRefusal → Type 0
RefusesFollow words conditions pasts OutOfMemory = ⊤
RefusesFollow words conditions pasts (Condition index) = IsNoCondition conditions (Condition index)
RefusesFollow words conditions pasts (Block fault) = AreConditions conditions × RefusesPlay words (Block fault)
RefusesFollow words conditions pasts Capacity = AreConditions conditions × RefusesPlay words Capacity
RefusesFollow words conditions pasts Pasts = AreConditions conditions × ((s : State) × IsPlayable s words × (pasts ≢ s.params.core_size))
RefusesFollow words conditions pasts (NoSuchEdit index) = ⊥
RefusesFollow words conditions pasts (Edit index fault) = ⊥
RefusesFollow words conditions pasts History = ⊥
RefusesFollow words conditions pasts Process = ⊥
