use Rattle.mars_match.proofs.ForLaws.FullCores.{full_core}
use Rattle.mars_match.proofs.laws.full_cores_leave_no_choice.Goals as goal

pub returns : goal.returns
returns c = full_core
