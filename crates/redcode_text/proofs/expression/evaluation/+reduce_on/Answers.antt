use Rattle.redcode_text.proofs.Reducing.{inside-pop}
use Rattle.redcode_text.proofs.expression.evaluation.+reduce_on.Goals as goal

pub returns-in_ok-value-in-Some-clause-inside : goal.returns-in_ok-value-in-Some-clause-inside
returns-in_ok-value-in-Some-clause-inside g t c n h = c.reduce_on.ensures.inside n (inside-pop n _ _ _ _ c.in-Some.ensures.taken h)
