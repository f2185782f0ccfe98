use Rattle.std.proofs.Common.{◌∙◌, sym, arith}
use Rattle.std.proofs.lemmas.Result.{err_from_is_err_and}
use Rattle.redcode_text.proofs.ShapeSteps.{shape-ok, shape-err}
use Rattle.redcode_text.proofs.expression.shape.check_shape.Goals as goal

pub loop-token-preserved : goal.loop-token-preserved
loop-token-preserved c =
    sym (shape-ok c.loop-token.state _ c.args.tokens.now c.loop-token.token-index _ (omega arith) (sym c.step.ensures ∙ c.in_ok-state.was)) ∙ c.loop-token.invariant

pub returns-in_err-state : goal.returns-in_err-state
returns-in_err-state c =
    let p = err_from_is_err_and c.from_residual.result c.from_residual.ensures.1 in
    rw (p.1, p.2) (sym (shape-err c.loop-token.state _ c.args.tokens.now c.loop-token.token-index _ (omega arith) (sym c.step.ensures ∙ c.in_err-state.was)) ∙ c.loop-token.invariant)
