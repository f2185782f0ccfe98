use Rattle.std.proofs.Common.{◌≡◌, ◌++◌, take, drop}
use Rattle.std.specs.Prelude.{sum}
use Rattle.std.specs.List.{concat}
use Rattle.mars_core.specs.Queue.{addresses_of}
use Rattle.mars_core.specs.Block.{lengths_of}
use Rattle.mars_core.proofs.battle.block.queues.write_queues.Given as goal

abbrev pub invariant-loop-queue : goal.invariant-loop-queue
invariant-loop-queue l = record {
  place : l.place ≡ sum (lengths_of (addresses_of (take l.queue-index l.queues)));
  written : l.words ≡ concat (addresses_of (take l.queue-index l.queues)) ++ drop l.place l.initial.words;
}
