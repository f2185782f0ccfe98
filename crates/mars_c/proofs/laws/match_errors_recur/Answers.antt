use Rattle.mars_c.proofs.ForLaws.Recurring.{match_errors_recur}
use Rattle.mars_c.proofs.laws.match_errors_recur.Goals as goal

pub returns : goal.returns
returns c = match_errors_recur
