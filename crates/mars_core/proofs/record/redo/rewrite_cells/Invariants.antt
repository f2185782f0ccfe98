use Rattle.std.proofs.Common.{◌≡◌, drop}
use Rattle.mars_core.specs.Record.{rewritten}
use Rattle.mars_core.proofs.record.redo.rewrite_cells.Given as goal

abbrev pub invariant-loop-change : goal.invariant-loop-change
invariant-loop-change l = rewritten (drop l.change-index l.changes) l.core ≡ rewritten l.changes l.fn.core
