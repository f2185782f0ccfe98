use Rattle.std.proofs.Common.{◌≡◌, ap, sym, ◌∙◌}
use Rattle.mars_core.specs.State.{State}
use Rattle.mars_core.proofs.battle.Battle.copy_into.Goals as goal

pub copy_queues_over-requires-clause-limits : goal.copy_queues_over-requires-clause-limits
copy_queues_over-requires-clause-limits c =
    let same : c.self.inside.params ≡ c.target.inside.params =
    ap (λ (s : State). s.params) c.self.view_is ∙ c.requires.params ∙ ap (λ (s : State). s.params) (sym c.target.view_is) in (
      c.self.inside.params.processes,
      rw c.deref-2.ensures.value c.self.invariant.limits,
      rw (c.deref_mut.ensures.value, same) c.target.invariant.limits,
    )
