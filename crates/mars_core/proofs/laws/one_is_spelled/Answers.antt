use Rattle.mars_core.proofs.BlockReadBack.{one_spelled}
use Rattle.mars_core.proofs.laws.one_is_spelled.Goals as goal

pub returns : goal.returns
returns c = one_spelled
