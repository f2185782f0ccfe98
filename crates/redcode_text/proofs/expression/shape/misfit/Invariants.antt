use Rattle.std.proofs.Common.{◌≡◌, drop}
use Rattle.redcode_text.specs.Expression.{misfit, start}
use Rattle.redcode_text.proofs.expression.shape.misfit.Given as goal

abbrev pub invariant-loop-token : goal.invariant-loop-token
invariant-loop-token l = misfit l.state (drop l.token-index l.tokens) ≡ misfit start l.tokens
