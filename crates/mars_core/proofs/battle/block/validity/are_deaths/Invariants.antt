use Rattle.std.proofs.Common.{◌≡◌, ℕ, ◌<◌}
use Rattle.std.specs.Prelude.{if◌then◌else◌}
use Rattle.mars_core.specs.State.{is_empty, queue_of}
use Rattle.mars_core.specs.Queue.{addresses_of}
use Rattle.mars_core.specs.Validity.{times_died}
use Rattle.mars_core.proofs.battle.block.validity.are_deaths.Given as goal

abbrev pub invariant-loop-i : goal.invariant-loop-i
invariant-loop-i l = (k : ℕ) → k < l.i → times_died l.deaths k ≡ (if is_empty (queue_of (addresses_of l.queues) k) then 1 else 0)
