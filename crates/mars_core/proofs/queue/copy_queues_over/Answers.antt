use Rattle.std.proofs.Common.{◌<◌, length, arith}
use Rattle.mars_core.proofs.QueueSteps.{copied_more}
use Rattle.mars_core.proofs.queue.copy_queues_over.Goals as goal

pub loop-i-preserved : goal.loop-i-preserved
loop-i-preserved c =
    let i = c.loop-i.i in
    let inside : i < length c.args.targets.now = omega (arith, c.requires.count) in
    rw (c.loop-i.invariant, c.copy_over.ensures)
    (copied_more c.args.queues.now c.args.targets.now c.index-queues-i.result i c.loop-i-test.true inside c.index-queues-i.is)
