use Rattle.mars_c.proofs.ForLaws.Equal.{equal_outcomes}
use Rattle.mars_c.proofs.laws.equal_outcomes.Goals as goal

pub returns : goal.returns
returns c = equal_outcomes
