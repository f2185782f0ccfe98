use Rattle.mars_core.proofs.CallerLemmas.{record_determines_predecessor}
use Rattle.mars_core.proofs.laws.record_determines_predecessor.Goals as goal

pub returns : goal.returns
returns c = record_determines_predecessor
