use Rattle.mars_app.proofs.ForLaws.Failing.{only_the_debugger_reads}
use Rattle.mars_app.proofs.laws.only_the_debugger_reads.Goals as goal

pub returns : goal.returns
returns c = only_the_debugger_reads
