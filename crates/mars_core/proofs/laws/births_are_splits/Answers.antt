use Rattle.mars_core.proofs.ForLaws.Births.{births_are_splits}
use Rattle.mars_core.proofs.laws.births_are_splits.Goals as goal

pub returns : goal.returns
returns c = births_are_splits
