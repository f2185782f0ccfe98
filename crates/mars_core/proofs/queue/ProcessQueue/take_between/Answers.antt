use Rattle.std.proofs.Common.{refl, ◌∙◌}
use Rattle.mars_core.proofs.QueueSteps.{taken_last}
use Rattle.mars_core.proofs.queue.ProcessQueue.take_between.Goals as goal

pub returns-clause-queue : goal.returns-clause-queue
returns-clause-queue c = c.take_back.ensures.queue ∙ (rw c.rotate_from.ensures (rw (taken_last c.args.self.now.addresses c.args.place c.requires) refl))
