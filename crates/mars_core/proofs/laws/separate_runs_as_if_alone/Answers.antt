use Rattle.mars_core.proofs.ForLaws.ApartAlone.{fights_alone}
use Rattle.mars_core.proofs.laws.separate_runs_as_if_alone.Goals as goal

pub returns : goal.returns
returns c = fights_alone
