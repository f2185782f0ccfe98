use Rattle.mars_core.proofs.Searches.{IsFollowed}
use Rattle.mars_core.proofs.battle.Battle.follow.Given as goal

abbrev pub invariant-loop-made : goal.invariant-loop-made
invariant-loop-made l = IsFollowed l.conditions l.turns l.fn.self l.fn.pasts l.fn.found l.made l.self l.pasts l.found l.count
