use Rattle.std.proofs.Common.{ap, ◌∙◌}
use Rattle.mars_core.specs.State.{State}
use Rattle.mars_core.proofs.Lineages.{own_turn_made}
use Rattle.mars_core.proofs.battle.Battle.own_turn.Goals as goal

pub returns-clause-turn : goal.returns-clause-turn
returns-clause-turn c =
    let s = c.args.self.now in
    c.then_some.ensures
    ∙ own_turn_made s c.run.new.self c.args.warrior _ _ _ c.queue_len.result c.requires.running c.run.ensures
    (ap (λ (x : State). x.next) c.self.view_is) (ap (λ (x : State). x.turns) c.self-2.view_is) c.queue_len.ensures c.saturating_sub-waiting.ensures
