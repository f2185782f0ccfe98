use Rattle.mars_core.proofs.Fights.{dead_stay}
use Rattle.mars_core.proofs.laws.the_dead_stay_dead.Goals as goal

pub returns : goal.returns
returns c = dead_stay
