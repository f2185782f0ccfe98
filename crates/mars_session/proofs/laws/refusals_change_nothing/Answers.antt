use Rattle.mars_session.proofs.ForLaws.Scripted.{refusals_change_nothing}
use Rattle.mars_session.proofs.laws.refusals_change_nothing.Goals as goal

pub returns : goal.returns
returns c = refusals_change_nothing
