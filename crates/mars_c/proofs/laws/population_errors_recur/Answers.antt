use Rattle.mars_c.proofs.ForLaws.Recurring.{population_errors_recur}
use Rattle.mars_c.proofs.laws.population_errors_recur.Goals as goal

pub returns : goal.returns
returns c = population_errors_recur
