use Rattle.mars_core.proofs.CallerLemmas.{record_determines_successor}
use Rattle.mars_core.proofs.laws.record_determines_successor.Goals as goal

pub returns : goal.returns
returns c = record_determines_successor
