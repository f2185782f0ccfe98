use Rattle.mars_session.proofs.ForLaws.Scripted.{calls_are_scripts}
use Rattle.mars_session.proofs.laws.calls_are_scripts.Goals as goal

pub returns : goal.returns
returns c = calls_are_scripts
