use Rattle.mars_session.proofs.ForLaws.Wanting.{never_full}
use Rattle.mars_session.proofs.laws.never_full.Goals as goal

pub returns : goal.returns
returns c = never_full
