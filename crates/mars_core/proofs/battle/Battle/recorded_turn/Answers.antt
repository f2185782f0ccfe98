use Rattle.std.proofs.Common.{◌≡◌, arith, length}
use Rattle.mars_core.proofs.TurnState.{refilled}
use Rattle.mars_core.proofs.battle.Battle.recorded_turn.Goals as goal

pub invariant_of-self : goal.invariant_of-self
invariant_of-self g c =
    let i = c.self.inside in
    let parts = c.make_recorded_turn-made.ensures.parts in
    let cells : length c.make_recorded_turn-made.new.core ≡ i.core.len = omega (arith, i.core.ok.0, c.deref_mut.ensures.len, c.make_recorded_turn-made.auto.core) in
    let warriors : length c.make_recorded_turn-made.new.queues ≡ i.queues.len = omega (arith, i.queues.ok.0, c.deref_mut-2.ensures.len, c.make_recorded_turn-made.auto.queues) in
    let core_is = refilled c.make_recorded_turn-made.new.core i.core.items i.core.len cells (omega (arith, i.core.ok.0)) in
    let queues_is = refilled c.make_recorded_turn-made.new.queues i.queues.items i.queues.len warriors (omega (arith, i.queues.ok.0)) in
    rw (core_is, queues_is) (record { valid = parts.valid; limits = parts.limits; counted = parts.counted })
