use Rattle.mars_cell.proofs.ForLaws.Values.{by_value-same}
use Rattle.mars_cell.proofs.laws.value_is_residue.Goals as goal

pub returns : goal.returns
returns c = by_value-same
