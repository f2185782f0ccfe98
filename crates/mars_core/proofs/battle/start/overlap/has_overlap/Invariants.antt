use Rattle.std.proofs.Common.{◌≡◌, drop}
use Rattle.mars_core.specs.Start.{overlap}
use Rattle.mars_core.proofs.battle.start.overlap.has_overlap.Given as goal

abbrev pub invariant-loop-i : goal.invariant-loop-i
invariant-loop-i l = overlap l.core_size (drop l.i l.warriors) (drop l.i l.starts) ≡ overlap l.core_size l.warriors l.starts
