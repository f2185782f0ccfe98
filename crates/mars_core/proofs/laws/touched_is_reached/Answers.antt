use Rattle.mars_core.proofs.ForLaws.Near.{touched_reached}
use Rattle.mars_core.proofs.laws.touched_is_reached.Goals as goal

pub returns : goal.returns
returns c = touched_reached
