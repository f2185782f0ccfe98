use Rattle.mars_match.proofs.ForLaws.Partitions.{adds_up}
use Rattle.mars_match.proofs.laws.leagues_add_up.Goals as goal

pub returns : goal.returns
returns c = adds_up
