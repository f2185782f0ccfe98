use Rattle.std.proofs.Common.{arith, ap, ◌∙◌}
use Rattle.mars_c.specs.Blocks.{capacity_of}
use Rattle.mars_c.proofs.PlayedBlocks.{capacity_played}
use Rattle.mars_c.proofs.following.follow_in.Goals as goal

pub put-requires : goal.put-requires
put-requires c =
    let playable = c.in-Ok.ensures.done.0 in
    let room = ap capacity_of c.follow-count.ensures.battle ∙ capacity_played c.args.turns c.in-Ok.followed.battle in
    omega (arith, room, playable.capacity)
