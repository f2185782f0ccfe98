use Rattle.mars_c.proofs.ForLaws.ByRounds.{rounds_make_the_fates}
use Rattle.mars_c.proofs.laws.rounds_make_the_fates.Goals as goal

pub returns : goal.returns
returns c = rounds_make_the_fates
