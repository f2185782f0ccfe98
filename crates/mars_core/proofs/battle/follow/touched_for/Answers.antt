use Rattle.mars_core.proofs.TouchedInside.{touched_inside}
use Rattle.mars_core.proofs.battle.follow.touched_for.Goals as goal

pub returns-then-are_on-clause-inside : goal.returns-then-are_on-clause-inside
returns-then-are_on-clause-inside c = λ core is at.
    rw (c.touched.ensures core is at) (touched_inside c.args.params.now c.requires.params c.args.pc c.requires.pc core)
