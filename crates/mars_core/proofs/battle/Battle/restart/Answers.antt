use Rattle.std.proofs.Common.{◌≡◌, sym, arith, length, zero-add}
use Rattle.mars_core.proofs.StartState.{started_valid, started_counted}
use Rattle.mars_core.proofs.TurnState.{refilled}
use Rattle.mars_core.proofs.battle.Battle.restart.Goals as goal

pub invariant_of-self : goal.invariant_of-self
invariant_of-self c =
    let i = c.self.inside in
    let ws = c.args.warriors.now in
    let ss = c.args.starts.now in
    let core = c.reload.new.core in
    let queues = c.refill_queues.new.queues in
    let in_range = c.find_fault.ensures.in_range in
    let fine = sym c.in_default.ensures.value in
    let cells : length core ≡ i.core.len = omega (arith, i.core.ok.0, c.deref_mut.ensures.len, c.reload.auto.core) in
    let warriors : length queues ≡ i.queues.len = omega (arith, i.queues.ok.0, c.deref_mut-2.ensures.len, c.refill_queues.auto.queues) in
    let core_is = refilled core i.core.items i.core.len cells (omega (arith, i.core.ok.0)) in
    let queues_is = refilled queues i.queues.items i.queues.len warriors (omega (arith, i.queues.ok.0)) in
    rw (core_is, queues_is, c.new-self-inside.ensures) (record {
      valid = started_valid i.params ws ss core in_range c.requires.starts fine c.reload.ensures.core queues c.refill_queues.ensures.addresses;
      limits = c.refill_queues.ensures.limits;
      counted = rw zero-add (started_counted i.params ws ss core in_range c.requires.starts fine c.reload.ensures.core queues c.refill_queues.ensures.addresses);
    })
