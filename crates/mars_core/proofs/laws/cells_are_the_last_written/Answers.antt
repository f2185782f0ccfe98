use Rattle.mars_core.proofs.ForLaws.Written.{cells_are_the_last_written}
use Rattle.mars_core.proofs.laws.cells_are_the_last_written.Goals as goal

pub returns : goal.returns
returns c = cells_are_the_last_written
