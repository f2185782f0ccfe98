use Rattle.std.proofs.Common.{◌≡◌, ◌++◌, take, drop}
use Rattle.mars_core.proofs.queue.copy_queues_over.Given as goal

-- The queues before the index are copied, and the others are unchanged.
abbrev pub invariant-loop-i : goal.invariant-loop-i
invariant-loop-i l = l.targets ≡ take l.i l.queues ++ drop l.i l.fn.targets
