use Rattle.mars_session.proofs.ForLaws.Scripted.{commands_are_undone}
use Rattle.mars_session.proofs.laws.commands_are_undone.Goals as goal

pub returns : goal.returns
returns c = commands_are_undone
