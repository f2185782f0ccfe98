use Rattle.std.proofs.Common.{length}
use Rattle.redcode_text.proofs.expression.evaluation.+reduce_on.Given as goal

abbrev pub decreases-reduce_on : goal.decreases-reduce_on
decreases-reduce_on g l = length l.stack.now
