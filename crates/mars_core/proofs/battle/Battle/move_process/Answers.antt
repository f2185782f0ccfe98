use Rattle.std.proofs.Common.{◌<◌, get_or, length, ap, sym, ◌∙◌, subst, arith}
use Rattle.std.proofs.lemmas.List.{length-map}
use Rattle.mars_core.specs.Queue.{Queue}
use Rattle.mars_core.specs.State.{State, state_of}
use Rattle.mars_core.specs.Validity.{IsValid}
use Rattle.mars_core.specs.Edit.{IsProcess, edited, edit_record}
use Rattle.mars_core.specs.declared.battle.edit.Edit.TheVariants as edit
use Rattle.mars_core.proofs.Edits.{place_filled, set_filled, move_valid}
use Rattle.mars_core.proofs.EditState.{queue_at, limits_kept, counted_kept, moved_state, move_record}
use Rattle.mars_core.proofs.battle.Battle.move_process.Goals as goal

pub index_mut-queue-requires : goal.index_mut-queue-requires
index_mut-queue-requires c =
    let asked = subst (λ (s : State). IsProcess s c.args.warrior c.args.place) (sym c.self.view_is) c.requires.process in
    let there = asked.warrior in
    omega (arith, simp length-map at there, c.self.inside.queues.ok.0)

pub replace-from-requires : goal.replace-from-requires
replace-from-requires c =
    let i = c.self.inside in
    let q = c.index_mut-queue.result.now in
    let asked = subst (λ (s : State). IsProcess s c.args.warrior c.args.place) (sym c.self.view_is) c.requires.process in
    let at = queue_at i.params i.core.items i.queues.items i.next i.cycle i.turns i.deaths.items c.self.invariant.valid c.args.warrior asked.warrior q q c.index_mut-queue.ensures.value in
    omega (arith, asked.place, ap length at)

pub invariant_of-self : goal.invariant_of-self
invariant_of-self c =
    let i = c.self.inside in
    let q = c.index_mut-queue.result.now in
    let asked = subst (λ (s : State). IsProcess s c.args.warrior c.args.place) (sym c.self.view_is) c.requires.process in
    let moved = ap (λ (q : Queue). q.addresses) c.replace-from.ensures.queue in
    let at = queue_at i.params i.core.items i.queues.items i.next i.cycle i.turns i.deaths.items c.self.invariant.valid c.args.warrior asked.warrior q q c.index_mut-queue.ensures.value in
    let is = moved_state i.params i.core.items i.queues.items i.next i.cycle i.turns i.deaths.items c.self.invariant.valid c.args.warrior asked.warrior q c.replace-from.new.self c.index_mut-queue.ensures.value c.args.place c.args.address moved in
    let inside = subst (λ (s : State). c.args.address < s.params.core_size) (sym c.self.view_is) c.requires.address in
    let filled = place_filled q.addresses c.args.place (omega (arith, asked.place, ap length at)) in
    record {
      valid = subst IsValid (sym is) (move_valid _ c.args.warrior c.args.place c.args.address c.self.invariant.valid asked inside);
      limits = limits_kept i.params i.core.items i.queues.items i.next i.cycle i.turns i.deaths.items c.self.invariant.valid c.args.warrior asked.warrior q c.replace-from.new.self c.index_mut-queue.ensures.value (ap (λ (q : Queue). q.limit) c.replace-from.ensures.queue) c.self.invariant.limits;
      counted = counted_kept i.params i.core.items i.queues.items i.next i.cycle i.turns i.deaths.items c.self.invariant.valid c.args.warrior asked.warrior q c.replace-from.new.self c.index_mut-queue.ensures.value
          filled (λ e. set_filled q.addresses c.args.place c.args.address filled (sym moved ∙ e)) c.self.invariant.counted;
    }

pub returns-clause-state : goal.returns-clause-state
returns-clause-state c =
    let i = c.self.inside in
    let q = c.index_mut-queue.result.now in
    let asked = subst (λ (s : State). IsProcess s c.args.warrior c.args.place) (sym c.self.view_is) c.requires.process in
    let moved = ap (λ (q : Queue). q.addresses) c.replace-from.ensures.queue in
    moved_state i.params i.core.items i.queues.items i.next i.cycle i.turns i.deaths.items c.self.invariant.valid c.args.warrior asked.warrior q c.replace-from.new.self c.index_mut-queue.ensures.value c.args.place c.args.address moved
    ∙ ap (λ (s : State). edited s (edit.MoveProcess c.args.warrior c.args.place c.args.address)) c.self.view_is

pub returns-clause-record : goal.returns-clause-record
returns-clause-record c =
    let i = c.self.inside in
    let q = c.index_mut-queue.result.now in
    let asked = subst (λ (s : State). IsProcess s c.args.warrior c.args.place) (sym c.self.view_is) c.requires.process in
    let at = queue_at i.params i.core.items i.queues.items i.next i.cycle i.turns i.deaths.items c.self.invariant.valid c.args.warrior asked.warrior q q c.index_mut-queue.ensures.value in
    let from = c.replace-from.ensures.address ∙ ap (λ l. get_or l c.args.place 0) (sym at) in
    c.atom_without_death.ensures ∙ rw c.new.ensures (
    move_record (state_of i.params i.core.items i.queues.items i.next i.cycle i.turns i.deaths.items) c.args.warrior c.args.place c.args.address c.replace-from.result from
    ∙ ap (λ (s : State). edit_record s (edit.MoveProcess c.args.warrior c.args.place c.args.address)) c.self.view_is
    )
