use Rattle.mars_app.proofs.ForLaws.Pauses.{failed_reads_are_pauses}
use Rattle.mars_app.proofs.laws.failed_reads_are_pauses.Goals as goal

pub returns : goal.returns
returns c = failed_reads_are_pauses
