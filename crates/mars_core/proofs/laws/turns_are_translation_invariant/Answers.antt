use Rattle.mars_core.proofs.ForLaws.Relative.{turn_moved}
use Rattle.mars_core.proofs.laws.turns_are_translation_invariant.Goals as goal

pub returns : goal.returns
returns c = turn_moved
