use Rattle.std.proofs.Common.{take}
use Rattle.std.specs.List.{AllZip}
use Rattle.mars_c.specs.Blocks.{Means}
use Rattle.mars_c.proofs.edits.edits_of.Given as goal

abbrev pub invariant-loop-i : goal.invariant-loop-i
invariant-loop-i l = AllZip Means (take l.i l.numbers) l.edits.items
