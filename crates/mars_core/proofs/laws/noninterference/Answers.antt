use Rattle.mars_core.proofs.ForLaws.Apart.{fights_alike}
use Rattle.mars_core.proofs.laws.noninterference.Goals as goal

pub returns : goal.returns
returns c = fights_alike
