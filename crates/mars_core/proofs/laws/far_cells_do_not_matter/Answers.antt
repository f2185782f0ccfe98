use Rattle.mars_core.proofs.ForLaws.Near.{far_cells}
use Rattle.mars_core.proofs.laws.far_cells_do_not_matter.Goals as goal

pub returns : goal.returns
returns c = far_cells
