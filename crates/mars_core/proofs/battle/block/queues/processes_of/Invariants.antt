use Rattle.std.proofs.Common.{◌≡◌, ◌≤◌, ◌*◌, take}
use Rattle.std.specs.Prelude.{sum}
use Rattle.mars_core.specs.Queue.{addresses_of}
use Rattle.mars_core.specs.Block.{lengths_of}
use Rattle.mars_core.proofs.battle.block.queues.processes_of.Given as goal

abbrev pub invariant-loop-queue : goal.invariant-loop-queue
invariant-loop-queue l = record {
  count : l.count ≡ sum (lengths_of (addresses_of (take l.queue-index l.queues)));
  few : l.count ≤ 65536 * l.queue-index;
}
