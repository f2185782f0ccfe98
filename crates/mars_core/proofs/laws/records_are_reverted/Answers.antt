use Rattle.mars_core.proofs.Restored.{record_reverted}
use Rattle.mars_core.proofs.laws.records_are_reverted.Goals as goal

pub returns : goal.returns
returns c = record_reverted
