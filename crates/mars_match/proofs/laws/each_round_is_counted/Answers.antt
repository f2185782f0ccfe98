use Rattle.mars_match.proofs.ForLaws.RoundCounts.{each_round}
use Rattle.mars_match.proofs.laws.each_round_is_counted.Goals as goal

pub returns : goal.returns
returns c = each_round
