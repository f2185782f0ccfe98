use Rattle.mars_core.proofs.Fights.{one_more_process}
use Rattle.mars_core.proofs.laws.turns_add_one_process.Goals as goal

pub returns : goal.returns
returns c = one_more_process
