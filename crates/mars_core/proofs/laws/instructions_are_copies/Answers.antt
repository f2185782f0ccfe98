use Rattle.mars_core.proofs.ForLaws.Copied.{instructions_are_copies}
use Rattle.mars_core.proofs.laws.instructions_are_copies.Goals as goal

pub returns : goal.returns
returns c = instructions_are_copies
