use Rattle.mars_app.proofs.ForLaws.Given.{equal_runs_write_the_same}
use Rattle.mars_app.proofs.laws.equal_runs_write_the_same.Goals as goal

pub returns : goal.returns
returns c = equal_runs_write_the_same
