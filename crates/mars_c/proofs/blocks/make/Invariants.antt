use Rattle.std.proofs.Common.{take}
use Rattle.std.specs.List.{FoldsTo}
use Rattle.mars_c.specs.Blocks.{Makes}
use Rattle.mars_c.proofs.blocks.make.Given as goal

abbrev pub invariant-loop-i : goal.invariant-loop-i
invariant-loop-i l = FoldsTo Makes l.fn.battle (take l.i l.edits) l.battle
