use Rattle.mars_c.proofs.ForLaws.Recurring.{starts_fit_again}
use Rattle.mars_c.proofs.laws.starts_fit_again.Goals as goal

pub returns : goal.returns
returns c = starts_fit_again
