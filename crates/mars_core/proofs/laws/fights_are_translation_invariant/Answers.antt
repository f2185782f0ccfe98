use Rattle.mars_core.proofs.ForLaws.Relative.{turns_moved}
use Rattle.mars_core.proofs.laws.fights_are_translation_invariant.Goals as goal

pub returns : goal.returns
returns c = turns_moved
