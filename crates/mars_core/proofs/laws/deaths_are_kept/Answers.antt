use Rattle.mars_core.proofs.Fights.{deaths_grow}
use Rattle.mars_core.proofs.laws.deaths_are_kept.Goals as goal

pub returns : goal.returns
returns c = deaths_grow
