use Rattle.mars_session.proofs.ForLaws.Few.{few_commands_are_undone}
use Rattle.mars_session.proofs.laws.few_commands_are_undone.Goals as goal

pub returns : goal.returns
returns c = few_commands_are_undone
