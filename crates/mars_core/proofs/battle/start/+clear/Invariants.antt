use Rattle.std.proofs.Common.{length}
use Rattle.mars_core.proofs.battle.start.+clear.Given as goal

abbrev pub decreases-clear : goal.decreases-clear
decreases-clear l = length l.cells.now
