use Rattle.std.proofs.Common.{◌≡◌, length, ap, sym, ◌∙◌, subst, arith}
use Rattle.std.proofs.lemmas.List.{length-map}
use Rattle.mars_core.specs.Record.{reverted}
use Rattle.mars_core.specs.Validity.{IsValid}
use Rattle.mars_core.proofs.Counted.{valid_counted}
use Rattle.mars_core.proofs.Restored.{record_reverted}
use Rattle.mars_core.proofs.Reverts.{CanRevert, can_revert, led_valid, reverted_state}
use Rattle.mars_core.proofs.TurnState.{refilled}
use Rattle.mars_core.proofs.battle.Battle.revert.Goals as goal

pub restore_cells-requires : goal.restore_cells-requires
restore_cells-requires c =
    let u = subst (CanRevert c.args.atom.now) (sym c.self.view_is) (can_revert c.requires.0 c.args.self.now c.args.atom.now c.requires.1) in
    rw (c.as_slice.ensures.value, c.deref_mut.ensures.value) u.cells

pub restore_queue-requires : goal.restore_queue-requires
restore_queue-requires c =
    let u = subst (CanRevert c.args.atom.now) (sym c.self.view_is) (can_revert c.requires.0 c.args.self.now c.args.atom.now c.requires.1) in
    rw (c.len.ensures.value, c.deref_mut-2.ensures.value) (c.self.inside.params.processes, c.self.invariant.limits, u.queue)

pub overflow_sub-self : goal.overflow_sub-self
overflow_sub-self c =
    let u = subst (CanRevert c.args.atom.now) (sym c.self.view_is) (can_revert c.requires.0 c.args.self.now c.args.atom.now c.requires.1) in
    rw c.cycles_of.ensures u.cycle

pub overflow_sub-self-2 : goal.overflow_sub-self-2
overflow_sub-self-2 c =
    let u = subst (CanRevert c.args.atom.now) (sym c.self.view_is) (can_revert c.requires.0 c.args.self.now c.args.atom.now c.requires.1) in
    rw c.turns_of.ensures u.turns

pub invariant_of-self : goal.invariant_of-self
invariant_of-self c =
    let i = c.self.inside in
    let core = c.restore_cells.new.core in
    let queues = c.restore_queue.new.queues in
    let cells : length core ≡ i.core.len = omega (arith, i.core.ok.0, c.deref_mut.ensures.len, c.restore_cells.auto.core) in
    let warriors : length queues ≡ i.queues.len = omega (arith, i.queues.ok.0, c.deref_mut-2.ensures.len, c.restore_queue.auto.queues) in
    let core_is = refilled core i.core.items i.core.len cells (omega (arith, i.core.ok.0)) in
    let queues_is = refilled queues i.queues.items i.queues.len warriors (omega (arith, i.queues.ok.0)) in
    let is =
    reverted_state i.params i.core.items i.queues.items i.next i.cycle i.turns i.deaths.items c.args.atom.now core queues c.cycles_of.result c.turns_of.result c.remove_last_death.new.deaths.items
    (rw (c.as_slice.ensures.value, c.deref_mut.ensures.value) at c.restore_cells.ensures)
    (rw (c.len.ensures.value, c.deref_mut-2.ensures.value) at c.restore_queue.ensures.addresses)
    c.cycles_of.ensures c.turns_of.ensures c.remove_last_death.ensures
    ∙ ap (reverted c.args.atom.now) c.self.view_is in
    let valid = subst IsValid (sym (is ∙ record_reverted c.requires.0 c.args.atom.now c.args.self.now c.requires.1)) (led_valid c.requires.0 c.args.self.now c.args.atom.now c.requires.1) in
    let counted = valid_counted _ valid in
    rw (core_is, queues_is) (record {
      valid = valid;
      limits = c.restore_queue.ensures.limits i.params.processes (rw c.deref_mut-2.ensures.value c.self.invariant.limits);
      counted = simp length-map at counted;
    })

pub returns : goal.returns
returns c = λ before led.
    let i = c.self.inside in
    let core = c.restore_cells.new.core in
    let queues = c.restore_queue.new.queues in
    let cells : length core ≡ i.core.len = omega (arith, i.core.ok.0, c.deref_mut.ensures.len, c.restore_cells.auto.core) in
    let warriors : length queues ≡ i.queues.len = omega (arith, i.queues.ok.0, c.deref_mut-2.ensures.len, c.restore_queue.auto.queues) in
    let core_is = refilled core i.core.items i.core.len cells (omega (arith, i.core.ok.0)) in
    let queues_is = refilled queues i.queues.items i.queues.len warriors (omega (arith, i.queues.ok.0)) in
    rw (core_is, queues_is) (
    reverted_state i.params i.core.items i.queues.items i.next i.cycle i.turns i.deaths.items c.args.atom.now core queues c.cycles_of.result c.turns_of.result c.remove_last_death.new.deaths.items
    (rw (c.as_slice.ensures.value, c.deref_mut.ensures.value) at c.restore_cells.ensures)
    (rw (c.len.ensures.value, c.deref_mut-2.ensures.value) at c.restore_queue.ensures.addresses)
    c.cycles_of.ensures c.turns_of.ensures c.remove_last_death.ensures
    ∙ ap (reverted c.args.atom.now) c.self.view_is
    ∙ record_reverted before c.args.atom.now c.args.self.now led
    )
