use Rattle.mars_core.proofs.Blocks.{cell_written}
use Rattle.mars_core.proofs.battle.block.cells.write_cells.Goals as goal

pub loop-i-preserved : goal.loop-i-preserved
loop-i-preserved c =
    rw (c.word_of.ensures, c.cell-cell.ensures, c.index-cells-i.is)
    (cell_written c.args.cells.now c.loop-i.i c.index-cells-i.result c.loop-i.words c.args.words.now c.loop-i-test.true c.requires c.loop-i.invariant)
