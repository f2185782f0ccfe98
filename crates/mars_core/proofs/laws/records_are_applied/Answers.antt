use Rattle.mars_core.proofs.Rewritten.{record_applied}
use Rattle.mars_core.proofs.laws.records_are_applied.Goals as goal

pub returns : goal.returns
returns c = record_applied
