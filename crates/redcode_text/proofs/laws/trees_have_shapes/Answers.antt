use Rattle.redcode_text.proofs.ForLaws.ShapedTrees.{has-shape, own-tree}
use Rattle.redcode_text.proofs.laws.trees_have_shapes.Goals as goal

pub returns : goal.returns
returns c = λ tree levelled within. (has-shape tree levelled within, own-tree tree levelled)
