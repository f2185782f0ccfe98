use Rattle.std.proofs.Common.{◌≡◌, List, map, take}
use Rattle.mars_match.specs.declared.fates.Fate.{Fate}
use Rattle.mars_c.specs.Outcomes.{AreFought, plain_fate}
use Rattle.mars_c.proofs.outcomes.fight_all.Given as goal

abbrev pub invariant-loop-i : goal.invariant-loop-i
invariant-loop-i l = (fates : List Fate) × AreFought l.settings l.warriors (take l.i l.lineups) fates × (l.outcomes.items ≡ map plain_fate fates)
