use Rattle.std.proofs.Common.{arith, ap, ◌∙◌, ◌≡◌}
use Rattle.mars_core.specs.Edit.{edited}
use Rattle.mars_c.specs.Blocks.{capacity_of}
use Rattle.mars_c.proofs.PlayedBlocks.{edit_made, capacity_edited}
use Rattle.mars_c.proofs.blocks.edit_in.Goals as goal

pub put-requires : goal.put-requires
put-requires c =
    let made : c.edit.new.self ≡ edited c.in-Ok.battle _ = edit_made _ c.edit.result c.in-Ok-edit.field-0 _ _ _ _ c.in-Ok-edit.is c.edit.ensures.answer c.edit.ensures.state in
    let room = ap capacity_of made ∙ capacity_edited c.in-Ok.battle _ in
    omega (arith, room, c.in-Ok.ensures.battle.capacity)
