use Rattle.mars_core.proofs.Lineages.{AreKept}
use Rattle.mars_core.proofs.battle.Battle.own_turns.Given as goal

abbrev pub invariant-loop-made : goal.invariant-loop-made
invariant-loop-made l = AreKept l.turns l.fn.self l.warrior l.made l.self l.own.items
