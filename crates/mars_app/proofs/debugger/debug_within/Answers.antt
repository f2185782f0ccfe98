use Rattle.std.proofs.Common.{◌≡◌, ◌+◌, ◌*◌, refl, rules, arith}
use Rattle.std.proofs.KnownBytes.{Keeps-refl}
use Rattle.mars_app.specs.Debugger.Transcript.{core_size_of}
use Rattle.mars_app.proofs.Transcripts.Bounds.{takes_none, takes_more}
use Rattle.mars_app.proofs.Transcripts.Reading.{reads_none, reads_more, reads_quit, reads_break, reads_end, reads_break_at_end, Completes-along, WriteFails-along}
use Rattle.mars_app.proofs.debugger.debug_within.Goals as goal

pub reads-init : goal.reads-init
reads-init g c = record {
  so_far = reads_none _ _ _ _ c.new-line.result c.new-line.ensures;
  few = takes_none _;
  untouched = λ _. record { reader = Keeps-refl _; session = refl; writer = Keeps-refl _ };
}

pub returns-in-Ok-take_last_line-clause-ok : goal.returns-in-Ok-take_last_line-clause-ok
returns-in-Ok-take_last_line-clause-ok g c =
    let read = rw c.if-count-eq0.true at c.in-Ok.ensures.bytes in
    let e : c.core_size-core_size.result ≡ core_size_of c.args.session.now.state = cc in
    Completes-along e (reads_end _ _ _ _ _ _ _ _ c.reads.invariant.so_far _ read.0 (read.1 refl (search rules)) _ _ c.in-Ok-take_last_line.ensures.ok)

pub returns-in-Err-take_last_line-clause-write : goal.returns-in-Err-take_last_line-clause-write
returns-in-Err-take_last_line-clause-write g c =
    let read = rw c.if-count-eq0.true at c.in-Ok.ensures.bytes in
    let e : c.core_size-core_size.result ≡ core_size_of c.args.session.now.state = cc in
    λ _. WriteFails-along e (reads_break_at_end _ _ _ _ _ _ _ _ c.reads.invariant.so_far _ read.0 (read.1 refl (search rules)) _ _ c.in-Err-take_last_line.ensures.err)

pub returns-in-Ok-Quit-clause-ok : goal.returns-in-Ok-Quit-clause-ok
returns-in-Ok-Quit-clause-ok g c =
    let e : c.core_size-core_size.result ≡ core_size_of c.args.session.now.state = cc in
    Completes-along e (reads_quit _ _ _ _ _ _ _ _ c.reads.invariant.so_far _ _ c.in-Ok.ensures.bytes.0 _ _ ((rw c.in-Ok-Quit.field-0-is at c.in-Ok-Quit.ensures.quit) refl))

pub returns-in-Err-take_bytes-clause-write : goal.returns-in-Err-take_bytes-clause-write
returns-in-Err-take_bytes-clause-write g c =
    let e : c.core_size-core_size.result ≡ core_size_of c.args.session.now.state = cc in
    λ _. WriteFails-along e (reads_break _ _ _ _ _ _ _ _ c.reads.invariant.so_far _ _ c.in-Ok.ensures.bytes.0 _ _ c.in-Err-take_bytes.ensures.err)

pub reads-preserved : goal.reads-preserved
reads-preserved g c = record {
  so_far = reads_more _ _ _ _ _ _ _ _ c.reads.invariant.so_far _ _ c.in-Ok.ensures.bytes.0 _ _ _ ((rw c.in-Ok-More.field-0-is at c.in-Ok-More.ensures.more) refl);
  few = takes_more (4096 * c.reads.counter) _ _ c.reads.invariant.few (4096 * (c.reads.counter + 1)) _ c.in-Ok.count _ (omega arith) c.in-Ok.ensures.bytes.0;
  untouched = λ e. absurd (omega (arith, e));
}

pub returns-clause-no_reads : goal.returns-clause-no_reads
returns-clause-no_reads g c = λ e. (refl, c.reads.invariant.untouched (omega (arith, e)))

pub returns-in-Ok-Quit-clause-few : goal.returns-in-Ok-Quit-clause-few
returns-in-Ok-Quit-clause-few g c =
    takes_more (4096 * c.reads.counter) _ _ c.reads.invariant.few (4096 * c.args.reads) _ c.in-Ok.count _ (omega arith) c.in-Ok.ensures.bytes.0

pub returns-in-Err-take_bytes-clause-few : goal.returns-in-Err-take_bytes-clause-few
returns-in-Err-take_bytes-clause-few g c =
    takes_more (4096 * c.reads.counter) _ _ c.reads.invariant.few (4096 * c.args.reads) _ c.in-Ok.count _ (omega arith) c.in-Ok.ensures.bytes.0
