use Rattle.std.proofs.Common.{◌≡◌, drop}
use Rattle.redcode_text.specs.Expression.{kinds, shape, start}
use Rattle.redcode_text.proofs.expression.shape.check_shape.Given as goal

abbrev pub invariant-loop-token : goal.invariant-loop-token
invariant-loop-token l = shape l.state (kinds (drop l.token-index l.tokens)) ≡ shape start (kinds l.tokens)
