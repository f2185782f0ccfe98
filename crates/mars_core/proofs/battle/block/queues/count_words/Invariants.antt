use Rattle.std.proofs.Common.{◌≡◌, take}
use Rattle.mars_core.specs.Queue.{addresses_of}
use Rattle.mars_core.specs.Block.{lengths_of}
use Rattle.mars_core.proofs.battle.block.queues.count_words.Given as goal

abbrev pub invariant-loop-queue : goal.invariant-loop-queue
invariant-loop-queue l = l.counts.items ≡ lengths_of (addresses_of (take l.queue-index l.queues))
