use Rattle.std.proofs.Common.{◌≡◌, replicate}
use Rattle.mars_match.specs.Code.Tallies.{no_rounds}
use Rattle.mars_match.proofs.matches.first_tallies.Given as goal

abbrev pub invariant-loop-warrior : goal.invariant-loop-warrior
invariant-loop-warrior l = l.tallies.items ≡ replicate l._warrior no_rounds
