use Rattle.std.proofs.Common.{refl}
use Rattle.std.proofs.lemmas.List.{take_all}
use Rattle.mars_app.proofs.Transcripts.Reading.{goes_through_next, quits_inside, breaks_inside}
use Rattle.mars_app.proofs.debugger.take_bytes.Goals as goal

pub returns-in-Ok-Quit-clause-quit : goal.returns-in-Ok-Quit-clause-quit
returns-in-Ok-Quit-clause-quit g c = λ _. quits_inside _ c.args.chunk.now c.loop-byte.byte-index _ c.loop-byte-test.true refl
    _ _ _ _ _ _ _ _ c.loop-byte.invariant ((rw c.in-Ok-Quit.field-0-is at c.in-Ok-Quit.ensures.quit) refl)

pub returns-in-Err-clause-err : goal.returns-in-Err-clause-err
returns-in-Err-clause-err g c = breaks_inside _ c.args.chunk.now c.loop-byte.byte-index _ c.loop-byte-test.true refl
    _ _ _ _ _ _ _ _ c.loop-byte.invariant c.in-Err.ensures.err

pub loop-byte-preserved : goal.loop-byte-preserved
loop-byte-preserved g c = goes_through_next _ c.args.chunk.now c.loop-byte.byte-index _ c.loop-byte-test.true refl
    _ _ _ _ _ _ _ _ _ c.loop-byte.invariant ((rw c.in-Ok-More.field-0-is at c.in-Ok-More.ensures.more) refl)

pub returns-clause-more : goal.returns-clause-more
returns-clause-more g c = λ _. rw (take_all c.loop-byte.byte-index c.args.chunk.now c.loop-byte-test.false) at c.loop-byte.invariant
