use Rattle.std.proofs.Common.{length}
use Rattle.redcode_text.proofs.expression.evaluation.+apply_signs.Given as goal

abbrev pub decreases-apply_signs : goal.decreases-apply_signs
decreases-apply_signs l = length l.run.now
