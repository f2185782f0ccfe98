use Rattle.mars_c.proofs.ForLaws.Recurring.{league_errors_recur}
use Rattle.mars_c.proofs.laws.league_errors_recur.Goals as goal

pub returns : goal.returns
returns c = league_errors_recur
