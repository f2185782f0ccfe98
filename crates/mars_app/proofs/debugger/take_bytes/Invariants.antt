use Rattle.std.proofs.Common.{take}
use Rattle.mars_app.specs.Code.Steps.{GoesThrough}
use Rattle.mars_app.proofs.debugger.take_bytes.Given as goal

abbrev pub invariant-loop-byte : goal.invariant-loop-byte
invariant-loop-byte g l = GoesThrough l.core_size (take l.byte-index l.chunk)
    l.initial.line l.initial.session.state (g.W.Write.contents l.initial.writer)
    l.line l.session.state (g.W.Write.contents l.writer)
