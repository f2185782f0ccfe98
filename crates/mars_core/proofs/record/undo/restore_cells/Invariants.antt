use Rattle.std.proofs.Common.{◌≡◌, ◌≤◌, length, take}
use Rattle.mars_core.specs.Record.{restored}
use Rattle.mars_core.proofs.record.undo.restore_cells.Given as goal

abbrev pub invariant-loop-left : goal.invariant-loop-left
invariant-loop-left l = record {
  bound : l.left ≤ length l.changes;
  restored_so_far : restored (take l.left l.changes) l.core ≡ restored l.changes l.fn.core;
}

abbrev pub decreases-loop-left : goal.decreases-loop-left
decreases-loop-left l = l.left
