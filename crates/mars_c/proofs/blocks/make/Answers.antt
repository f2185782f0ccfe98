use Rattle.std.proofs.Common.{refl}
use Rattle.mars_c.proofs.PlayedBlocks.{edit_made, edit_possible, makes_next}
use Rattle.mars_c.proofs.blocks.make.Goals as goal

pub loop-i-preserved : goal.loop-i-preserved
loop-i-preserved c =
    makes_next c.args.battle.now c.loop-i.battle c.edit.new.self c.args.edits.now c.loop-i.i _ _ c.loop-i.invariant c.loop-i-test.true refl
    (edit_possible _ c.edit.result c.in_default.field-0 _ c.in_default.is c.edit.ensures.answer)
    (edit_made _ c.edit.result c.in_default.field-0 _ _ _ _ c.in_default.is c.edit.ensures.answer c.edit.ensures.state)
