use Rattle.mars_app.proofs.ForLaws.Recurring.{errors_recur}
use Rattle.mars_app.proofs.laws.errors_recur.Goals as goal

pub returns : goal.returns
returns c = errors_recur
