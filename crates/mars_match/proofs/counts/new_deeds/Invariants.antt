use Rattle.std.proofs.Common.{◌≡◌, replicate}
use Rattle.mars_match.specs.Code.Deeds.{no_deeds}
use Rattle.mars_match.proofs.counts.new_deeds.Given as goal

abbrev pub invariant-loop-warrior : goal.invariant-loop-warrior
invariant-loop-warrior l = l.deeds.items ≡ replicate l.warrior (no_deeds l.core_size)
