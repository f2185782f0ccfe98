use Rattle.mars_core.proofs.Lineages.{IsTraced}
use Rattle.mars_core.proofs.battle.ancestors.trace_back.Given as goal

abbrev pub invariant-loop-i : goal.invariant-loop-i
invariant-loop-i l = IsTraced l.own l.fn.place l.fn.births l.i l.first l.count l.births
