use Rattle.mars_core.proofs.Edits.{edit_valid}
use Rattle.mars_core.proofs.laws.edits_stay_valid.Goals as goal

pub returns : goal.returns
returns c = edit_valid
