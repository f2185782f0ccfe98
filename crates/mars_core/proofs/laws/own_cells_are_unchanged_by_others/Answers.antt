use Rattle.mars_core.proofs.ForLaws.Apart.{own_cells_left}
use Rattle.mars_core.proofs.laws.own_cells_are_unchanged_by_others.Goals as goal

pub returns : goal.returns
returns c = own_cells_left
