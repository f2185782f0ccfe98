use Rattle.mars_core.proofs.ForLaws.ApartAlone.{undisturbed_alone}
use Rattle.mars_core.proofs.laws.undisturbed_runs_as_if_alone.Goals as goal

pub returns : goal.returns
returns c = undisturbed_alone
