use Rattle.mars_core.proofs.ForLaws.ApartPairs.{two_alike}
use Rattle.mars_core.proofs.laws.noninterference_of_two.Goals as goal

pub returns : goal.returns
returns c = two_alike
