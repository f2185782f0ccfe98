use Rattle.std.proofs.Common.{arith, rules, ap, ◌∙◌}
use Rattle.std.proofs.lemmas.List.Elements.{All-push, All-same}
use Rattle.mars_cell.specs.Cells.{FitsCore}
use Rattle.mars_core.specs.Block.{core_words}
use Rattle.mars_core.proofs.Blocks.{cell_read, no_cell}
use Rattle.mars_core.proofs.battle.block.cells.read_cells.Goals as goal

pub loop-address-preserved : goal.loop-address-preserved
loop-address-preserved c =
    let more = rw c.new.ensures at c.push_reserved.ensures.items in
    record {
      count = search rules;
      words = ap core_words more ∙ cell_read c.loop-address.cells.items c.in-Some.cell c.args.words.now c.loop-address.address c.loop-address.invariant.words c.in-Some.ensures.some (omega arith);
      cells = All-same (FitsCore c.args.core_size) _ _ more (All-push (FitsCore c.args.core_size) c.loop-address.cells.items c.in-Some.cell c.loop-address.invariant.cells c.in-Some.ensures.fits);
      room = search rules;
    }

pub returns-in-None-clause-none : goal.returns-in-None-clause-none
returns-in-None-clause-none c = λ _. no_cell c.args.core_size c.args.words.now c.loop-address.address c.loop-address-test.true c.in-None.ensures.none
