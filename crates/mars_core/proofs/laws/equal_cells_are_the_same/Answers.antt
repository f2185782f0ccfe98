use Rattle.mars_core.proofs.SameCells.{equal_cells_same}
use Rattle.mars_core.proofs.laws.equal_cells_are_the_same.Goals as goal

pub returns : goal.returns
returns c = equal_cells_same
