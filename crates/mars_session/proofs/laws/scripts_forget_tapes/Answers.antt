use Rattle.mars_session.proofs.ForLaws.Keeping.{scripts_forget_tapes}
use Rattle.mars_session.proofs.laws.scripts_forget_tapes.Goals as goal

pub returns : goal.returns
returns c = scripts_forget_tapes
