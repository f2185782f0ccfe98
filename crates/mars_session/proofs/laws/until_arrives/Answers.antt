use Rattle.mars_session.proofs.ForLaws.Arriving.{until_arrives}
use Rattle.mars_session.proofs.laws.until_arrives.Goals as goal

pub returns : goal.returns
returns c = until_arrives
