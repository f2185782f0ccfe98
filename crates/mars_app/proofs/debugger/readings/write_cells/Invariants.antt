use Rattle.mars_app.specs.Debugger.Readings.{texts, line_at}
use Rattle.mars_app.specs.Code.Waiting.{Waits}
use Rattle.mars_app.proofs.debugger.readings.write_cells.Given as goal

abbrev pub invariant-loop-i : goal.invariant-loop-i
invariant-loop-i g l = Waits (g.W.Write.contents l.initial.writer) (g.W.Write.contents l.writer) l.pending (texts (line_at l.battle l.address) l.i)
