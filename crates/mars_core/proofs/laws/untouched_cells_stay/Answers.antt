use Rattle.mars_core.proofs.ForLaws.Touched.{untouched_stays}
use Rattle.mars_core.proofs.laws.untouched_cells_stay.Goals as goal

pub returns : goal.returns
returns c = untouched_stays
