use Rattle.std.proofs.Common.{arith, ap, ◌∙◌, refl, length, length-append}
use Rattle.mars_core.specs.Block.{death_words}
use Rattle.mars_core.proofs.Blocks.{death_read}
use Rattle.mars_core.proofs.battle.block.deaths.read_deaths.Goals as goal

pub loop-i-preserved : goal.loop-i-preserved
loop-i-preserved c =
    let more = ap length c.push.ensures.items ∙ length-append c.loop-i.deaths.items _ in
    record {
      count = omega (arith, more, c.loop-i.invariant.count);
      words = ap death_words c.push.ensures.items ∙ death_read c.loop-i.deaths.items _ c.args.words.now c.loop-i.i c.loop-i.invariant.words refl refl (omega arith);
    }
