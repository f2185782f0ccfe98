use Rattle.mars_session.proofs.Places.{commands_append}
use Rattle.mars_session.proofs.laws.commands_append.Goals as goal

pub returns : goal.returns
returns c = commands_append
