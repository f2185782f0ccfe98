use Rattle.std.proofs.Common.{sym, zero-add}
use Rattle.mars_core.proofs.StartState.{started_valid, started_counted}
use Rattle.mars_core.proofs.battle.Battle.new.Goals as goal

pub invariant_of-result : goal.invariant_of-result
invariant_of-result c =
    let p = c.args.params.now in
    let r = c.find_fault.ensures.in_range in
    let fine = sym c.in_default.ensures.value in
    let queues = c.in-Ok-first_queues.queues.items in
    let core = c.in-Ok.core.items in
    record {
      valid = rw c.new.ensures (started_valid p c.args.warriors.now c.args.starts.now core r c.requires fine c.in-Ok.ensures.core queues c.in-Ok-first_queues.ensures.addresses);
      limits = c.in-Ok-first_queues.ensures.limits;
      counted = rw (c.new.ensures, zero-add) (started_counted p c.args.warriors.now c.args.starts.now core r c.requires fine c.in-Ok.ensures.core queues c.in-Ok-first_queues.ensures.addresses);
    }
