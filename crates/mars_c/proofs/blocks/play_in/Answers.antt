use Rattle.std.proofs.Common.{arith, ap, ◌∙◌}
use Rattle.mars_c.specs.Blocks.{capacity_of}
use Rattle.mars_c.proofs.PlayedBlocks.{capacity_played}
use Rattle.mars_c.proofs.blocks.play_in.Goals as goal

pub put-requires : goal.put-requires
put-requires c =
    let room = ap capacity_of c.play.ensures.battle ∙ capacity_played c.args.turns c.in-Ok.battle in
    omega (arith, room, c.in-Ok.ensures.battle.capacity)
