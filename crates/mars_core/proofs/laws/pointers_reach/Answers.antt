use Rattle.mars_core.proofs.ForLaws.Near.{pointers_reach}
use Rattle.mars_core.proofs.laws.pointers_reach.Goals as goal

pub returns : goal.returns
returns c = pointers_reach
