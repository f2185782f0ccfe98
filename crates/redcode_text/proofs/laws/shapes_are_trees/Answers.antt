use Rattle.redcode_text.proofs.ForLaws.ShapedTrees.{spells}
use Rattle.redcode_text.proofs.laws.shapes_are_trees.Goals as goal

pub returns : goal.returns
returns c = spells
