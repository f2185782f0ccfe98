use Rattle.redcode_text.proofs.ForLaws.Unread.{in-no-round}
use Rattle.redcode_text.proofs.laws.zero_iteration_bodies_are_ignored.Goals as goal

pub returns : goal.returns
returns c = in-no-round
