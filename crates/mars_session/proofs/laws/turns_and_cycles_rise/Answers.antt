use Rattle.mars_session.proofs.Between.{turns_and_cycles_rise}
use Rattle.mars_session.proofs.laws.turns_and_cycles_rise.Goals as goal

pub returns : goal.returns
returns c = turns_and_cycles_rise
