use Rattle.mars_app.proofs.ForLaws.Failing.{failed_runs_write_a_beginning}
use Rattle.mars_app.proofs.laws.failed_runs_write_a_beginning.Goals as goal

pub returns : goal.returns
returns c = failed_runs_write_a_beginning
