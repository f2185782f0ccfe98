use Rattle.mars_c.proofs.ForLaws.Equal.{equal_leagues}
use Rattle.mars_c.proofs.laws.equal_leagues.Goals as goal

pub returns : goal.returns
returns c = equal_leagues
