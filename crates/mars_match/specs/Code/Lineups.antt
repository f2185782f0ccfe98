-- What the code retains from round to round. The warriors are followed by all but the last one again, so that each
-- rotation is a slice of the list. The memory of a battle is retained, too.
use Rattle.std.specs.Prelude.{◌≡◌, ℕ, ◌+◌, ◌-◌, List, ◌++◌, length, take}
use Rattle.mars_cell.specs.Parameters.{Parameters}
use Rattle.mars_core.specs.State.{State}

-- The list `xs` has `count` items, followed by all but the last of these items again.
pub record GoesOn {X : Type 0} (count : ℕ) (xs : List X) : Type 0 where
  pub many : length xs ≡ count + (count - 1)
  pub again : xs ≡ take count xs ++ take (count - 1) xs

-- The battle `s` has the parameters `p` and a queue for each of `count` warriors, so a battle of `count` warriors can
-- start in its memory.
pub record HasRoom (p : Parameters) (count : ℕ) (s : State) : Type 0 where
  pub params : s.params ≡ p
  pub warriors : length s.queues ≡ count
