use Rattle.mars_core.proofs.ForLaws.ApartAlone.{untouched_alone}
use Rattle.mars_core.proofs.laws.disjoint_run_as_if_alone.Goals as goal

pub returns : goal.returns
returns c = untouched_alone
