use Rattle.mars_c.proofs.ForLaws.Rounds.{debugs_round_zero}
use Rattle.mars_c.proofs.laws.debugs_round_zero.Goals as goal

pub returns : goal.returns
returns c = debugs_round_zero
