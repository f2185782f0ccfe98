use Rattle.std.proofs.Common.{◌≡◌, ◌++◌, take}
use Rattle.mars_match.proofs.fights.Lineup.of.Given as goal

abbrev pub invariant-loop-i : goal.invariant-loop-i
invariant-loop-i l = l.copies.items ≡ l.initial.copies.items ++ take l.i l.initial.copies.items
