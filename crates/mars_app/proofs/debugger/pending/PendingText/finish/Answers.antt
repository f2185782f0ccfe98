use Rattle.std.proofs.lemmas.Result.{on_err_weaker, on_ok_weaker}
use Rattle.mars_cell.proofs.CallerLemmas.{CutShort-front}
use Rattle.mars_app.proofs.debugger.pending.PendingText.finish.Goals as goal

pub returns-in-Ok-clause-ok : goal.returns-in-Ok-clause-ok
returns-in-Ok-clause-ok g c = on_ok_weaker c.write.result (λ out old text waits. out old _ (c.in-Ok.ensures.ok old text waits)) c.write.ensures.ok

pub returns-in-Ok-clause-err : goal.returns-in-Ok-clause-err
returns-in-Ok-clause-err g c = on_err_weaker c.write.result (λ cut old text waits. cut old _ (c.in-Ok.ensures.ok old text waits)) c.write.ensures.err

pub returns-in-Err-clause-err : goal.returns-in-Err-clause-err
returns-in-Err-clause-err g c = λ old text waits. CutShort-front _ _ text c.args.line.now.bytes (c.in-Err.ensures.err old text waits)
