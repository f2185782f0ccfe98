use Rattle.std.proofs.Common.{◌-◌, length, ap, arith}
use Rattle.mars_core.specs.Queue.{Queue}
use Rattle.mars_core.proofs.QueueSteps.{slice_at}
use Rattle.mars_core.proofs.queue.ProcessQueue.take_back.Goals as goal

pub unreachable-requires : goal.unreachable-requires
unreachable-requires c =
    let same = ap (λ (q : Queue). length q.addresses) c.self.view_is in
    let last = slice_at c.self.inside.ring.items (length c.self.inside.ring.items - 1) (omega (arith, same, c.requires)) in
    cc (last, c.in-None.is, c.pop_back.ensures.value)

pub returns-clause-address : goal.returns-clause-address
returns-clause-address c =
    let same = ap (λ (q : Queue). length q.addresses) c.self.view_is in
    let last = slice_at c.self.inside.ring.items (length c.self.inside.ring.items - 1) (omega (arith, same, c.requires)) in
    cc (last, c.in-Some.is, c.pop_back.ensures.value, c.self.view_is)
