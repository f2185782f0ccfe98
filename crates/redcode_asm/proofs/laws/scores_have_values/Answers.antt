use Rattle.redcode_asm.proofs.Scores.{score_has_value}
use Rattle.redcode_asm.proofs.laws.scores_have_values.Goals as goal

pub returns : goal.returns
returns c = score_has_value
