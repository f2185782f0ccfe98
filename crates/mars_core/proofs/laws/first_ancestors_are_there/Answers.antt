use Rattle.mars_core.proofs.ForLaws.Births.{first_ancestors_are_there}
use Rattle.mars_core.proofs.laws.first_ancestors_are_there.Goals as goal

pub returns : goal.returns
returns c = first_ancestors_are_there
