use Rattle.mars_core.proofs.ForLaws.MovedStart.{fault_moved, start_moved}
use Rattle.mars_core.proofs.laws.starts_are_translation_invariant.Goals as goal

pub returns : goal.returns
returns c = λ p warriors starts k r h all. (fault_moved p r k h warriors starts all, start_moved p warriors starts k r h)
