use Rattle.mars_core.proofs.Moments.{AreCounted}
use Rattle.mars_core.proofs.battle.moments.owned_cells.Given as goal

abbrev pub invariant-loop-i : goal.invariant-loop-i
invariant-loop-i l = AreCounted l.pasts l.i l.cells
