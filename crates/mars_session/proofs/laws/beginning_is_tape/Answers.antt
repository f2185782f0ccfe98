use Rattle.mars_session.proofs.ForLaws.Keeping.{beginning_is_tape}
use Rattle.mars_session.proofs.laws.beginning_is_tape.Goals as goal

pub returns : goal.returns
returns c = beginning_is_tape
