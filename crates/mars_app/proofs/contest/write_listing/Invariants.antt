use Rattle.std.proofs.Common.{take}
use Rattle.std.specs.Io.KnownBytes.{Appends}
use Rattle.mars_app.specs.Contests.{listing_from}
use Rattle.mars_app.proofs.contest.write_listing.Given as goal

abbrev pub invariant-loop-number : goal.invariant-loop-number
invariant-loop-number g l = Appends (g.W.Write.contents l.initial.output) (g.W.Write.contents l.output) (listing_from l.core_size 0 (take l.number l.warriors))
