use Rattle.mars_match.proofs.ForLaws.Partitions.{newcomer_changes_nothing}
use Rattle.mars_match.proofs.laws.newcomers_change_nothing.Goals as goal

pub returns : goal.returns
returns c = newcomer_changes_nothing
