use Rattle.std.proofs.Common.{◌≡◌, ◌*◌}
use Rattle.mars_app.specs.Debugger.Transcript.{NothingDone, TakesAtMost}
use Rattle.mars_app.proofs.Transcripts.Reading.{SoFar}
use Rattle.mars_app.proofs.debugger.debug_within.Given as goal

abbrev pub invariant-reads : goal.invariant-reads
invariant-reads g l = record {
  so_far : SoFar l.core_size (g.R.Read.remaining l.initial.reader) (g.R.Read.remaining l.reader)
      l.initial.session.state (g.W.Write.contents l.initial.writer)
      l.line l.session.state (g.W.Write.contents l.writer);
  few : TakesAtMost (4096 * l.counter) (g.R.Read.remaining l.initial.reader) (g.R.Read.remaining l.reader);
  untouched : l.counter ≡ 0 → NothingDone (g.R.Read.remaining l.initial.reader) (g.R.Read.remaining l.reader)
      l.initial.session.state (g.W.Write.contents l.initial.writer) l.session.state (g.W.Write.contents l.writer);
}
