use Rattle.std.proofs.Common.{◌≡◌, map, take}
use Rattle.mars_match.specs.Code.Deeds.{counts_in}
use Rattle.mars_match.proofs.counts.all_counts.Given as goal

abbrev pub invariant-loop-i : goal.invariant-loop-i
invariant-loop-i l = l.counts.items ≡ map counts_in (take l.i l.deeds)
