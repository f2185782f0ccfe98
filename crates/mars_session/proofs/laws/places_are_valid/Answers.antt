use Rattle.mars_core.proofs.CallerLemmas.{turn_valid, edit_valid}
use Rattle.mars_session.proofs.ForLaws.Valid.{places_are_valid}
use Rattle.mars_session.proofs.laws.places_are_valid.Goals as goal

pub returns : goal.returns
returns c = places_are_valid turn_valid edit_valid
