use Rattle.mars_core.proofs.Fights.{others_stay}
use Rattle.mars_core.proofs.laws.turns_keep_other_queues.Goals as goal

pub returns : goal.returns
returns c = others_stay
