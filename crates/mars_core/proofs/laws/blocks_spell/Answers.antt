use Rattle.mars_core.proofs.BlockReadBack.{blocks_spelled}
use Rattle.mars_core.proofs.laws.blocks_spell.Goals as goal

pub returns : goal.returns
returns c = blocks_spelled
