use Rattle.std.proofs.Common.{length, ap, sym, ◌∙◌, subst, arith}
use Rattle.std.proofs.lemmas.List.{length-map}
use Rattle.mars_core.specs.Queue.{Queue}
use Rattle.mars_core.specs.State.{State}
use Rattle.mars_core.specs.Validity.{IsValid}
use Rattle.mars_core.specs.Edit.{IsProcess, edited, edit_record}
use Rattle.mars_core.specs.declared.battle.edit.Edit.TheVariants as edit
use Rattle.mars_core.proofs.Edits.{place_filled, kill_valid}
use Rattle.mars_core.proofs.EditState.{queue_at, kill_room, limits_kept, killed_state, killed_record, killed_counted}
use Rattle.mars_core.proofs.battle.Battle.kill_process.Goals as goal

pub index_mut-queue-requires : goal.index_mut-queue-requires
index_mut-queue-requires c =
    let asked = subst (λ (s : State). IsProcess s c.args.warrior c.args.place) (sym c.self.view_is) c.requires in
    let there = asked.warrior in
    omega (arith, simp length-map at there, c.self.inside.queues.ok.0)

pub remove-address-requires : goal.remove-address-requires
remove-address-requires c =
    let i = c.self.inside in
    let q = c.index_mut-queue.result.now in
    let asked = subst (λ (s : State). IsProcess s c.args.warrior c.args.place) (sym c.self.view_is) c.requires in
    let at = queue_at i.params i.core.items i.queues.items i.next i.cycle i.turns i.deaths.items c.self.invariant.valid c.args.warrior asked.warrior q q c.index_mut-queue.ensures.value in
    omega (arith, asked.place, ap length at)

pub note_death-requires : goal.note_death-requires
note_death-requires c =
    let i = c.self.inside in
    let q = c.index_mut-queue.result.now in
    let asked = subst (λ (s : State). IsProcess s c.args.warrior c.args.place) (sym c.self.view_is) c.requires in
    let at = queue_at i.params i.core.items i.queues.items i.next i.cycle i.turns i.deaths.items c.self.invariant.valid c.args.warrior asked.warrior q q c.index_mut-queue.ensures.value in
    λ _. kill_room i.params i.core.items i.queues.items i.next i.cycle i.turns i.deaths.items c.self.invariant.valid c.args.warrior asked.warrior q q c.index_mut-queue.ensures.value (place_filled q.addresses c.args.place (omega (arith, asked.place, ap length at))) c.self.invariant.counted

pub invariant_of-self : goal.invariant_of-self
invariant_of-self c =
    let i = c.self.inside in
    let q = c.index_mut-queue.result.now in
    let asked = subst (λ (s : State). IsProcess s c.args.warrior c.args.place) (sym c.self.view_is) c.requires in
    let queue_is = ap (λ (q : Queue). q.addresses) c.remove-address.ensures.queue in
    let deaths_is = rw c.is_empty-died.ensures at c.note_death.ensures in
    let clock_is = rw (c.as_slice.ensures.value, c.is_empty-died.ensures) at c.clock_after_kill-after.ensures in
    record {
      valid = subst IsValid (sym (killed_state i.params i.core.items i.queues.items i.next i.cycle i.turns i.deaths.items c.self.invariant.valid c.args.warrior asked.warrior q c.remove-address.new.self c.index_mut-queue.ensures.value c.args.place asked.place c.note_death.new.deaths.items c.clock_after_kill-after.result queue_is deaths_is clock_is)) (kill_valid _ c.args.warrior c.args.place c.self.invariant.valid asked);
      limits = limits_kept i.params i.core.items i.queues.items i.next i.cycle i.turns i.deaths.items c.self.invariant.valid c.args.warrior asked.warrior q c.remove-address.new.self c.index_mut-queue.ensures.value (ap (λ (q : Queue). q.limit) c.remove-address.ensures.queue) c.self.invariant.limits;
      counted = killed_counted i.params i.core.items i.queues.items i.next i.cycle i.turns i.deaths.items c.self.invariant.valid c.args.warrior asked.warrior q c.remove-address.new.self c.index_mut-queue.ensures.value c.args.place asked.place c.note_death.new.deaths.items c.clock_after_kill-after.result queue_is deaths_is clock_is c.self.invariant.counted;
    }

pub returns-clause-state : goal.returns-clause-state
returns-clause-state c =
    let i = c.self.inside in
    let q = c.index_mut-queue.result.now in
    let asked = subst (λ (s : State). IsProcess s c.args.warrior c.args.place) (sym c.self.view_is) c.requires in
    let queue_is = ap (λ (q : Queue). q.addresses) c.remove-address.ensures.queue in
    let deaths_is = rw c.is_empty-died.ensures at c.note_death.ensures in
    let clock_is = rw (c.as_slice.ensures.value, c.is_empty-died.ensures) at c.clock_after_kill-after.ensures in
    killed_state i.params i.core.items i.queues.items i.next i.cycle i.turns i.deaths.items c.self.invariant.valid c.args.warrior asked.warrior q c.remove-address.new.self c.index_mut-queue.ensures.value c.args.place asked.place c.note_death.new.deaths.items c.clock_after_kill-after.result queue_is deaths_is clock_is
    ∙ ap (λ (s : State). edited s (edit.KillProcess c.args.warrior c.args.place)) c.self.view_is

pub returns-clause-record : goal.returns-clause-record
returns-clause-record c =
    let i = c.self.inside in
    let q = c.index_mut-queue.result.now in
    let asked = subst (λ (s : State). IsProcess s c.args.warrior c.args.place) (sym c.self.view_is) c.requires in
    let queue_is = ap (λ (q : Queue). q.addresses) c.remove-address.ensures.queue in
    let deaths_is = rw c.is_empty-died.ensures at c.note_death.ensures in
    let clock_is = rw (c.as_slice.ensures.value, c.is_empty-died.ensures) at c.clock_after_kill-after.ensures in
    rw (c.new.ensures, c.new-2.ensures) (
    killed_record i.params i.core.items i.queues.items i.next i.cycle i.turns i.deaths.items c.self.invariant.valid c.args.warrior asked.warrior q c.remove-address.new.self c.index_mut-queue.ensures.value c.args.place asked.place c.note_death.new.deaths.items c.clock_after_kill-after.result queue_is deaths_is clock_is c.remove-address.result c.is_empty-died.result c.remove-address.ensures.address c.is_empty-died.ensures
    ∙ ap (λ (s : State). edit_record s (edit.KillProcess c.args.warrior c.args.place)) c.self.view_is
    )
