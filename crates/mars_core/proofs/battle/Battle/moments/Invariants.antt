use Rattle.mars_core.proofs.Moments.{AreMade}
use Rattle.mars_core.proofs.battle.Battle.moments.Given as goal

abbrev pub invariant-loop-i : goal.invariant-loop-i
invariant-loop-i l = AreMade l.i-end l.step l.conditions l.fn.self l.fn.pasts l.i l.self l.pasts l.moments
