use Rattle.mars_core.proofs.ForLaws.Touched.{untouched_cells}
use Rattle.mars_core.proofs.laws.untouched_cells_do_not_matter.Goals as goal

pub returns : goal.returns
returns c = untouched_cells
