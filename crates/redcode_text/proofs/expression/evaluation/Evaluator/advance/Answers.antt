use Rattle.std.proofs.Common.{rules, arith}
use Rattle.redcode_text.specs.Expression.{precedence}
use Rattle.redcode_text.proofs.expression.evaluation.Evaluator.advance.Goals as goal

pub operate-requires : goal.operate-requires
operate-requires g c = let fits = c.well_formed in (search rules, (omega arith, c.requires.room_after (precedence c.in-Sign.sign)))
