use Rattle.std.proofs.Common.{◌≡◌, take}
use Rattle.mars_match.proofs.fights.copies_of.Given as goal

abbrev pub invariant-loop-warrior : goal.invariant-loop-warrior
invariant-loop-warrior l = l.copies.items ≡ take l.warrior-index l.warriors
