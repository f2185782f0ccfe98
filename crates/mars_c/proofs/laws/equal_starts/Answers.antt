use Rattle.mars_c.proofs.ForLaws.Equal.{equal_starts}
use Rattle.mars_c.proofs.laws.equal_starts.Goals as goal

pub returns : goal.returns
returns c = equal_starts
