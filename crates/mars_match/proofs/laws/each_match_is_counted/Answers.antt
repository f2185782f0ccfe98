use Rattle.mars_match.proofs.ForLaws.RoundCounts.{each_match}
use Rattle.mars_match.proofs.laws.each_match_is_counted.Goals as goal

pub returns : goal.returns
returns c = each_match
