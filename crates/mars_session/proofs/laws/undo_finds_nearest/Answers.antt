use Rattle.mars_session.proofs.Places.{undo_finds_nearest}
use Rattle.mars_session.proofs.laws.undo_finds_nearest.Goals as goal

pub returns : goal.returns
returns c = undo_finds_nearest
