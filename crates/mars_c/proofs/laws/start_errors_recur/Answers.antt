use Rattle.mars_c.proofs.ForLaws.Recurring.{start_errors_recur}
use Rattle.mars_c.proofs.laws.start_errors_recur.Goals as goal

pub returns : goal.returns
returns c = start_errors_recur
