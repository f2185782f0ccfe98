use Rattle.std.proofs.Common.{arith, ap, ◌∙◌, ◌-◌}
use Rattle.std.proofs.lemmas.Grind.{common_steps}
use Rattle.mars_core.specs.State.{State}
use Rattle.mars_core.specs.Turn.{after_turns}
use Rattle.mars_c.proofs.PlayedBlocks.{played_on}
use Rattle.mars_c.proofs.blocks.play.Goals as goal

pub returns-clause-battle : goal.returns-clause-battle
returns-clause-battle g c =
    c.run.ensures
    ∙ ap (λ (s : State). after_turns (c.args.turns - c.min-count.result) s) c.fill_turn_rows.ensures.battle
    ∙ played_on c.args.turns c.min-count.result _ c.args.battle.now (omega (arith, c.min-count.ensures)) (grind (arith, common_steps, c.min-count.ensures))
