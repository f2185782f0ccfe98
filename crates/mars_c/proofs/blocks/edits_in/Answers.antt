use Rattle.std.proofs.Common.{arith}
use Rattle.mars_c.proofs.PlayedBlocks.{capacity_makes}
use Rattle.mars_c.proofs.blocks.edits_in.Goals as goal

pub put-requires : goal.put-requires
put-requires c =
    let room = capacity_makes c.in-Ok-take.battle c.make.new.battle c.deref.result.now c.in-Ok-make.ensures.made in
    omega (arith, room, c.in-Ok-take.ensures.battle.capacity)
