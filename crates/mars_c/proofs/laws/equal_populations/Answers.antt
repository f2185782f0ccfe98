use Rattle.mars_c.proofs.ForLaws.Equal.{equal_populations}
use Rattle.mars_c.proofs.laws.equal_populations.Goals as goal

pub returns : goal.returns
returns c = equal_populations
