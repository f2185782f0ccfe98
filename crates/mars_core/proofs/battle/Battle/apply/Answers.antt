use Rattle.std.proofs.Common.{◌≡◌, length, ap, sym, ◌∙◌, subst, arith}
use Rattle.std.proofs.lemmas.List.{length-map}
use Rattle.mars_core.specs.Record.{applied}
use Rattle.mars_core.specs.Validity.{IsValid}
use Rattle.mars_core.proofs.Counted.{valid_counted}
use Rattle.mars_core.proofs.Applies.{CanApply, can_apply, lead_to_valid, applied_state}
use Rattle.mars_core.proofs.Rewritten.{record_applied}
use Rattle.mars_core.proofs.TurnState.{refilled}
use Rattle.mars_core.proofs.battle.Battle.apply.Goals as goal

pub rewrite_cells-requires : goal.rewrite_cells-requires
rewrite_cells-requires c =
    let u = subst (CanApply c.args.atom.now) (sym c.self.view_is) (can_apply c.args.self.now c.requires.0 c.args.atom.now c.requires.1) in
    rw (c.as_slice.ensures.value, c.deref_mut.ensures.value) u.cells

pub reapply_to_queue-requires : goal.reapply_to_queue-requires
reapply_to_queue-requires c =
    let u = subst (CanApply c.args.atom.now) (sym c.self.view_is) (can_apply c.args.self.now c.requires.0 c.args.atom.now c.requires.1) in
    rw (c.as_slice-2.ensures.value, c.deref_mut-2.ensures.value) (c.self.inside.params.processes, c.self.invariant.limits, u.queue)

pub note_recorded_death-requires : goal.note_recorded_death-requires
note_recorded_death-requires c =
    let u = subst (CanApply c.args.atom.now) (sym c.self.view_is) (can_apply c.args.self.now c.requires.0 c.args.atom.now c.requires.1) in
    u.deaths

pub invariant_of-self : goal.invariant_of-self
invariant_of-self c =
    let i = c.self.inside in
    let core = c.rewrite_cells.new.core in
    let queues = c.reapply_to_queue.new.queues in
    let cells : length core ≡ i.core.len = omega (arith, i.core.ok.0, c.deref_mut.ensures.len, c.rewrite_cells.auto.core) in
    let warriors : length queues ≡ i.queues.len = omega (arith, i.queues.ok.0, c.deref_mut-2.ensures.len, c.reapply_to_queue.auto.queues) in
    let core_is = refilled core i.core.items i.core.len cells (omega (arith, i.core.ok.0)) in
    let queues_is = refilled queues i.queues.items i.queues.len warriors (omega (arith, i.queues.ok.0)) in
    let is =
    applied_state i.params i.core.items i.queues.items i.next i.cycle i.turns i.deaths.items c.args.atom.now core queues c.cycles_of.result c.turns_of.result c.note_recorded_death.new.deaths.items
    (rw (c.as_slice.ensures.value, c.deref_mut.ensures.value) at c.rewrite_cells.ensures)
    (rw (c.as_slice-2.ensures.value, c.deref_mut-2.ensures.value) at c.reapply_to_queue.ensures.addresses)
    c.cycles_of.ensures c.turns_of.ensures c.note_recorded_death.ensures
    ∙ ap (applied c.args.atom.now) c.self.view_is in
    let valid = subst IsValid (sym (is ∙ record_applied c.args.self.now c.args.atom.now c.requires.0 c.requires.1)) (lead_to_valid c.args.self.now c.requires.0 c.args.atom.now c.requires.1) in
    let counted = valid_counted _ valid in
    rw (core_is, queues_is) (record {
      valid = valid;
      limits = c.reapply_to_queue.ensures.limits i.params.processes (rw c.deref_mut-2.ensures.value c.self.invariant.limits);
      counted = simp length-map at counted;
    })

pub returns : goal.returns
returns c = λ after leads.
    let i = c.self.inside in
    let core = c.rewrite_cells.new.core in
    let queues = c.reapply_to_queue.new.queues in
    let cells : length core ≡ i.core.len = omega (arith, i.core.ok.0, c.deref_mut.ensures.len, c.rewrite_cells.auto.core) in
    let warriors : length queues ≡ i.queues.len = omega (arith, i.queues.ok.0, c.deref_mut-2.ensures.len, c.reapply_to_queue.auto.queues) in
    let core_is = refilled core i.core.items i.core.len cells (omega (arith, i.core.ok.0)) in
    let queues_is = refilled queues i.queues.items i.queues.len warriors (omega (arith, i.queues.ok.0)) in
    let is =
    applied_state i.params i.core.items i.queues.items i.next i.cycle i.turns i.deaths.items c.args.atom.now core queues c.cycles_of.result c.turns_of.result c.note_recorded_death.new.deaths.items
    (rw (c.as_slice.ensures.value, c.deref_mut.ensures.value) at c.rewrite_cells.ensures)
    (rw (c.as_slice-2.ensures.value, c.deref_mut-2.ensures.value) at c.reapply_to_queue.ensures.addresses)
    c.cycles_of.ensures c.turns_of.ensures c.note_recorded_death.ensures
    ∙ ap (applied c.args.atom.now) c.self.view_is
    ∙ record_applied c.args.self.now c.args.atom.now after leads in
    rw (core_is, queues_is) is
