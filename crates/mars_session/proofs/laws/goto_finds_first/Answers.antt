use Rattle.mars_session.proofs.Places.{goto_finds_first}
use Rattle.mars_session.proofs.laws.goto_finds_first.Goals as goal

pub returns : goal.returns
returns c = goto_finds_first
