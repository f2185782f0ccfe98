use Rattle.mars_session.proofs.Places.{moves_keep_places}
use Rattle.mars_session.proofs.laws.moves_keep_places.Goals as goal

pub returns : goal.returns
returns c = moves_keep_places
