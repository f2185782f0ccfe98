use Rattle.mars_session.proofs.ForLaws.Keeping.{calls_keep_tapes}
use Rattle.mars_session.proofs.laws.calls_keep_tapes.Goals as goal

pub returns : goal.returns
returns c = calls_keep_tapes
