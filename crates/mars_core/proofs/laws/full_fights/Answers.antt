use Rattle.mars_core.proofs.Fights.{full_fight}
use Rattle.mars_core.proofs.laws.full_fights.Goals as goal

pub returns : goal.returns
returns c = full_fight
