use Rattle.std.proofs.Common.{◌∙◌, sym, rules}
use Rattle.std.proofs.lemmas.Result.{on_ok_weaker, on_err_weaker}
use Rattle.mars_app.proofs.Transcripts.Reading.{finishes_empty, finishes_quit, finishes_line, breaks_at_last}
use Rattle.mars_app.proofs.debugger.take_last_line.Goals as goal

pub returns-then-is_empty-clause-ok : goal.returns-then-is_empty-clause-ok
returns-then-is_empty-clause-ok g c = finishes_empty _ _ _ _ (λ l h. sym c.if-is_empty.true ∙ c.is_empty.ensures l h)

pub returns-then-eq-clause-ok : goal.returns-then-eq-clause-ok
returns-then-eq-clause-ok g c = finishes_quit _ _ _ _ c.take_request-request.result (λ l h. sym c.if-is_empty.false ∙ c.is_empty.ensures l h)
    c.take_request-request.ensures.request (search rules)

pub returns-clause-ok : goal.returns-clause-ok
returns-clause-ok g c = on_ok_weaker c.execute.result (λ p. finishes_line _ _ _ _ _ _ c.take_request-request.result p.0
    (λ l h. sym c.if-is_empty.false ∙ c.is_empty.ensures l h) c.take_request-request.ensures.request (search rules) p.1 p.2) c.execute.ensures.ok

pub returns-clause-err : goal.returns-clause-err
returns-clause-err g c = on_err_weaker c.execute.result (λ p. breaks_at_last _ _ _ _ _ _ c.take_request-request.result p.0
    c.take_request-request.ensures.request p.1 p.2) c.execute.ensures.err
