use Rattle.mars_core.proofs.Ends.{battle_ends}
use Rattle.mars_core.proofs.laws.battles_end.Goals as goal

pub returns : goal.returns
returns c = battle_ends
