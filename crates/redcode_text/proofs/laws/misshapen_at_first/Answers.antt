use Rattle.redcode_text.proofs.ForLaws.ShapedTrees.{misshapen}
use Rattle.redcode_text.proofs.laws.misshapen_at_first.Goals as goal

pub returns : goal.returns
returns c = misshapen
