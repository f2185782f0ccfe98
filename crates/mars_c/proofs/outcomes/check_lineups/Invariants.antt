use Rattle.std.proofs.Common.{All, take}
use Rattle.mars_c.specs.Outcomes.{IsLineup}
use Rattle.mars_c.proofs.outcomes.check_lineups.Given as goal

abbrev pub invariant-loop-i : goal.invariant-loop-i
invariant-loop-i l = All (IsLineup l.count) (take l.i l.lineups)
