use Rattle.std.proofs.Common.{◌≡◌, drop, Ok}
use Rattle.redcode_text.specs.declared.expression.shape.ShapeState.{ShapeState}
use Rattle.redcode_text.specs.Expression.{kinds, shape}
use Rattle.redcode_text.specs.Code.Positions.{Corresponds, run_on}
use Rattle.redcode_text.proofs.expression.evaluate.Given as goal

abbrev pub invariant-loop-at : goal.invariant-loop-at
invariant-loop-at g l = record {
  read : run_on (g.E.Env.value_of l.env) l.tokens l.at l.evaluation (drop l.at l.tokens) ≡ run_on (g.E.Env.value_of l.env) l.tokens 0 l.initial.evaluation l.tokens;
  stands : (p : ShapeState) × Corresponds l.at l.evaluation p × (shape p (kinds (drop l.at l.tokens)) ≡ Ok tt);
}
