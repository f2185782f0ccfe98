use Rattle.mars_match.proofs.ForLaws.Survivors.{fates_are}
use Rattle.mars_match.proofs.laws.fates_are_outcomes.Goals as goal

pub returns : goal.returns
returns c = fates_are
