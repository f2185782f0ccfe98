use Rattle.std.proofs.Common.{◌≡◌, drop}
use Rattle.redcode_text.specs.Expression.{unknown_name}
use Rattle.redcode_text.proofs.expression.positions.unknown_name.Given as goal

abbrev pub invariant-loop-token : goal.invariant-loop-token
invariant-loop-token g l = unknown_name (g.E.Env.value_of l.names) (drop l.token-index l.tokens) ≡ unknown_name (g.E.Env.value_of l.names) l.tokens
