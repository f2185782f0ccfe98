use Rattle.std.proofs.Common.{rules}
use Rattle.mars_app.proofs.Transcripts.Reading.{goes_through_byte, goes_through_line, quits_at_line, breaks_at_line}
use Rattle.mars_app.proofs.debugger.take_byte.Goals as goal

pub returns-then-byte-ne10-clause-more : goal.returns-then-byte-ne10-clause-more
returns-then-byte-ne10-clause-more g c = λ _. goes_through_byte _ _ _ _ _ c.args.byte (search rules) c.push.ensures

pub returns-then-eq-clause-quit : goal.returns-then-eq-clause-quit
returns-then-eq-clause-quit g c = λ _. rw c.if-byte-ne10.false (quits_at_line _ _ _ _ c.take_request-request.result c.take_request-request.ensures.request (search rules))

pub returns-in-Ok-clause-more : goal.returns-in-Ok-clause-more
returns-in-Ok-clause-more g c = λ _. rw c.if-byte-ne10.false (goes_through_line _ _ _ _ _ _ _ c.take_request-request.result c.in-Ok.ensures.ok.0
    c.take_request-request.ensures.request c.take_request-request.ensures.next (search rules) c.in-Ok.ensures.ok.1 c.in-Ok.ensures.ok.2)

pub returns-in-Err-clause-err : goal.returns-in-Err-clause-err
returns-in-Err-clause-err g c = rw c.if-byte-ne10.false (breaks_at_line _ _ _ _ _ _ c.take_request-request.result c.in-Err.ensures.err.0
    c.take_request-request.ensures.request c.in-Err.ensures.err.1 c.in-Err.ensures.err.2)
