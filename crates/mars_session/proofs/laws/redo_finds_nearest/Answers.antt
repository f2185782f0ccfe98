use Rattle.mars_session.proofs.Places.{redo_finds_nearest}
use Rattle.mars_session.proofs.laws.redo_finds_nearest.Goals as goal

pub returns : goal.returns
returns c = redo_finds_nearest
