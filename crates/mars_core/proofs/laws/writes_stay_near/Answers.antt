use Rattle.mars_core.proofs.ForLaws.Near.{writes_near}
use Rattle.mars_core.proofs.laws.writes_stay_near.Goals as goal

pub returns : goal.returns
returns c = writes_near
