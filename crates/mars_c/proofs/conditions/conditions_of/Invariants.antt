use Rattle.std.proofs.Common.{◌≡◌, map, take}
use Rattle.mars_c.specs.Following.{plain_condition}
use Rattle.mars_c.proofs.conditions.conditions_of.Given as goal

abbrev pub invariant-loop-i : goal.invariant-loop-i
invariant-loop-i l = map plain_condition l.conditions.items ≡ take l.i l.numbers
