-- Which battles can be copied over one another without allocating.
use Rattle.std.specs.Prelude.{◌≡◌, length}
use Rattle.mars_core.specs.State.{State}

-- The states `s` and `t` have the same parameters and equally many warriors.
pub record SameShape (s t : State) : Type 0 where
  pub params : s.params ≡ t.params
  pub warriors : length s.queues ≡ length t.queues
