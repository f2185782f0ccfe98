use Rattle.mars_core.proofs.ForLaws.Near.{far_cell_stays}
use Rattle.mars_core.proofs.laws.far_cells_stay.Goals as goal

pub returns : goal.returns
returns c = far_cell_stays
