use Rattle.std.proofs.Common.{◌≡◌, drop}
use Rattle.mars_core.specs.Search.{are_on}
use Rattle.mars_core.proofs.search.are_on.Given as goal

abbrev pub invariant-loop-condition : goal.invariant-loop-condition
invariant-loop-condition l = are_on l.way l.conditions ≡ are_on l.way (drop l.condition-index l.conditions)
