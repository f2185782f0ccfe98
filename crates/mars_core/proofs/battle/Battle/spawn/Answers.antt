use Rattle.std.proofs.Common.{length, ap, sym, ◌∙◌, subst, arith}
use Rattle.std.proofs.lemmas.List.{length-map}
use Rattle.mars_core.specs.Queue.{Queue}
use Rattle.mars_core.specs.State.{State}
use Rattle.mars_core.specs.Validity.{IsValid}
use Rattle.mars_core.specs.Edit.{CanSpawn, edited}
use Rattle.mars_core.specs.declared.battle.edit.Edit.TheVariants as edit
use Rattle.mars_core.proofs.Edits.{pushed_filled, spawn_valid}
use Rattle.mars_core.proofs.EditState.{queue_at, limit_is, limits_kept, counted_kept, spawned_state}
use Rattle.mars_core.proofs.Live.{is_filled}
use Rattle.mars_core.proofs.battle.Battle.spawn.Goals as goal

pub index_mut-queue-requires : goal.index_mut-queue-requires
index_mut-queue-requires c =
    let asked = subst (λ (s : State). CanSpawn s c.args.warrior c.args.address) (sym c.self.view_is) c.requires in
    let there = asked.warrior in
    omega (arith, simp length-map at there, c.self.inside.queues.ok.0)

pub push-requires : goal.push-requires
push-requires c =
    let i = c.self.inside in
    let q = c.index_mut-queue.result.now in
    let asked = subst (λ (s : State). CanSpawn s c.args.warrior c.args.address) (sym c.self.view_is) c.requires in
    let at = queue_at i.params i.core.items i.queues.items i.next i.cycle i.turns i.deaths.items c.self.invariant.valid c.args.warrior asked.warrior q q c.index_mut-queue.ensures.value in
    let limit = limit_is i.params i.core.items i.queues.items i.next i.cycle i.turns i.deaths.items c.self.invariant.valid c.args.warrior asked.warrior q q c.index_mut-queue.ensures.value c.self.invariant.limits in
    omega (arith, asked.room, ap length at, limit)

pub invariant_of-self : goal.invariant_of-self
invariant_of-self c =
    let i = c.self.inside in
    let q = c.index_mut-queue.result.now in
    let asked = subst (λ (s : State). CanSpawn s c.args.warrior c.args.address) (sym c.self.view_is) c.requires in
    let pushed = ap (λ (q : Queue). q.addresses) c.push.ensures in
    let at = queue_at i.params i.core.items i.queues.items i.next i.cycle i.turns i.deaths.items c.self.invariant.valid c.args.warrior asked.warrior q q c.index_mut-queue.ensures.value in
    let is = spawned_state i.params i.core.items i.queues.items i.next i.cycle i.turns i.deaths.items c.self.invariant.valid c.args.warrior asked.warrior q c.push.new.self c.index_mut-queue.ensures.value c.args.address pushed in
    record {
      valid = subst IsValid (sym is) (spawn_valid _ c.args.warrior c.args.address c.self.invariant.valid asked);
      limits = limits_kept i.params i.core.items i.queues.items i.next i.cycle i.turns i.deaths.items c.self.invariant.valid c.args.warrior asked.warrior q c.push.new.self c.index_mut-queue.ensures.value (ap (λ (q : Queue). q.limit) c.push.ensures) c.self.invariant.limits;
      counted = counted_kept i.params i.core.items i.queues.items i.next i.cycle i.turns i.deaths.items c.self.invariant.valid c.args.warrior asked.warrior q c.push.new.self c.index_mut-queue.ensures.value
          (λ e. is_filled _ asked.alive (at ∙ e)) (λ e. pushed_filled q.addresses c.args.address (sym pushed ∙ e)) c.self.invariant.counted;
    }

pub returns-clause-state : goal.returns-clause-state
returns-clause-state c =
    let i = c.self.inside in
    let q = c.index_mut-queue.result.now in
    let asked = subst (λ (s : State). CanSpawn s c.args.warrior c.args.address) (sym c.self.view_is) c.requires in
    let pushed = ap (λ (q : Queue). q.addresses) c.push.ensures in
    spawned_state i.params i.core.items i.queues.items i.next i.cycle i.turns i.deaths.items c.self.invariant.valid c.args.warrior asked.warrior q c.push.new.self c.index_mut-queue.ensures.value c.args.address pushed
    ∙ ap (λ (s : State). edited s (edit.Spawn c.args.warrior c.args.address)) c.self.view_is
