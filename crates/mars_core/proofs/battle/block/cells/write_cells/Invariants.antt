use Rattle.std.proofs.Common.{◌≡◌, ◌*◌, ◌++◌, drop, take}
use Rattle.mars_core.specs.Block.{core_words}
use Rattle.mars_core.proofs.battle.block.cells.write_cells.Given as goal

abbrev pub invariant-loop-i : goal.invariant-loop-i
invariant-loop-i l = l.words ≡ core_words (take l.i l.cells) ++ drop (3 * l.i) l.initial.words
