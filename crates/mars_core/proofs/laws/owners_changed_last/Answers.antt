use Rattle.mars_core.proofs.ForLaws.Copied.{owners_changed_last}
use Rattle.mars_core.proofs.laws.owners_changed_last.Goals as goal

pub returns : goal.returns
returns c = owners_changed_last
