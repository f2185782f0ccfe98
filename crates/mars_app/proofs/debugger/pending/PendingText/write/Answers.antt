use Rattle.std.proofs.Common.{◌≡◌}
use Rattle.mars_app.proofs.Transcripts.Waits.{sent_part}
use Rattle.mars_app.proofs.debugger.pending.PendingText.write.Goals as goal

pub returns-in-Err-clause-err : goal.returns-in-Err-clause-err
returns-in-Err-clause-err g c = λ old text waits.
    let all : c.as_bytes.result.now ≡ c.args.self.now = cc in
    sent_part old _ _ c.args.self.now text (rw all at c.in-Err.ensures.err) waits
