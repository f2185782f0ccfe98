use Rattle.std.proofs.Common.{◌≡◌, ◌++◌, map, take}
use Rattle.mars_c.specs.Outcomes.{plain_fate}
use Rattle.mars_c.proofs.outcomes.append.Given as goal

abbrev pub invariant-loop-fate : goal.invariant-loop-fate
invariant-loop-fate l = l.outcomes.items ≡ l.initial.outcomes.items ++ map plain_fate (take l.fate-index l.fates)
