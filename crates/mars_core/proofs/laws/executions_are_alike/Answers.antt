use Rattle.mars_core.proofs.ForLaws.ReferenceCode.{executions_alike}
use Rattle.mars_core.proofs.laws.executions_are_alike.Goals as goal

pub returns : goal.returns
returns c = executions_alike
