use Rattle.std.proofs.Common.{length, ap}
use Rattle.mars_core.specs.Record.{warrior_of as spec_warrior_of, queue_after_work}
use Rattle.mars_core.specs.Queue.{Queue as Contents}
use Rattle.mars_core.specs.Code.Records.{CanRequeue}
use Rattle.mars_core.proofs.Requeued.{warrior_inside, queue_has, queue_changed, limit_at}
use Rattle.mars_core.proofs.record.redo.reapply_to_queue.Goals as goal

pub bounds-queues-warrior : goal.bounds-queues-warrior
bounds-queues-warrior c =
    warrior_inside c.args.queues.now (spec_warrior_of c.args.work) c.in-Some.warrior c.in-Some.ensures (CanRequeue c.requires.0 c.args.work (length c.args.queued.now)) c.requires.2

pub renew-requires : goal.renew-requires
renew-requires c =
    let qs = c.args.queues.now in
    let w = c.in-Some.warrior in
    let d = c.index-queues-warrior.result in
    let f = CanRequeue c.requires.0 c.args.work (length c.args.queued.now) in
    let inside = warrior_inside qs (spec_warrior_of c.args.work) w c.in-Some.ensures f c.requires.2 in
    rw (limit_at qs w c.requires.0 d inside c.requires.1) (queue_has qs (spec_warrior_of c.args.work) w c.in-Some.ensures f d c.requires.2)

pub returns-in-Some-clause-addresses : goal.returns-in-Some-clause-addresses
returns-in-Some-clause-addresses c =
    let qs = c.args.queues.now in
    let w = c.in-Some.warrior in
    let inside = warrior_inside qs (spec_warrior_of c.args.work) w c.in-Some.ensures (CanRequeue c.requires.0 c.args.work (length c.args.queued.now)) c.requires.2 in
    queue_changed qs (spec_warrior_of c.args.work) w c.in-Some.ensures (queue_after_work c.args.work c.args.queued.now) c.index-queues-warrior.result c.renew.new.queue inside
    (ap (λ (q : Contents). q.addresses) c.renew.ensures)
