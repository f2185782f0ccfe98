use Rattle.mars_c.proofs.ForLaws.Equal.{equal_matches}
use Rattle.mars_c.proofs.laws.equal_matches.Goals as goal

pub returns : goal.returns
returns c = equal_matches
