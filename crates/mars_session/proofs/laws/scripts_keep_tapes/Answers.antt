use Rattle.mars_session.proofs.ForLaws.Keeping.{scripts_keep_tapes}
use Rattle.mars_session.proofs.laws.scripts_keep_tapes.Goals as goal

pub returns : goal.returns
returns c = scripts_keep_tapes
