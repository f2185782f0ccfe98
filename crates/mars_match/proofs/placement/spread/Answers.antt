use Rattle.std.proofs.Common.{◌≤◌, ◌<◌, ◌∙◌, length, refl, arith}
use Rattle.mars_match.proofs.Draws.{spread_more, below_more}
use Rattle.mars_match.proofs.placement.spread.Goals as goal

pub loop-i-preserved : goal.loop-i-preserved
loop-i-preserved c =
    let inside : c.loop-i.i < length c.loop-i.starts = omega arith in
    record {
      starts = spread_more c.args.distance c.loop-i.starts c.loop-i.i _ inside refl ∙ c.loop-i.invariant.starts;
      below = below_more (λ s. s ≤ 1048576) c.loop-i.starts c.loop-i.i _ inside c.loop-i.invariant.below;
    }
