use Rattle.std.proofs.Common.{◌*◌, length, arith, ap, ◌∙◌}
use Rattle.mars_c.specs.Blocks.{capacity_of}
use Rattle.mars_c.proofs.PlayedBlocks.{capacity_played}
use Rattle.mars_c.proofs.following.moments_in.Goals as goal

pub put-requires : goal.put-requires
put-requires c =
    let playable = c.in-Ok.ensures.done.0 in
    let room = ap capacity_of c.moments.ensures.battle ∙ capacity_played (length c.args.moments.now * c.args.step) c.in-Ok.followed.battle in
    omega (arith, room, playable.capacity)
