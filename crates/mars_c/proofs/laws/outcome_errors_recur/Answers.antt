use Rattle.mars_c.proofs.ForLaws.Recurring.{outcome_errors_recur}
use Rattle.mars_c.proofs.laws.outcome_errors_recur.Goals as goal

pub returns : goal.returns
returns c = outcome_errors_recur
