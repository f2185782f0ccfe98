use Rattle.std.proofs.Common.{◌≡◌, ◌<◌, ◌-◌, ◌+◌, ◌%◌, ◌∙◌, arith}
use Rattle.std.specs.List.{swap}
use Rattle.mars_match.specs.Placement.{drawn}
use Rattle.mars_match.proofs.Draws.{exchanged_more, seed_after_down}
use Rattle.mars_match.proofs.placement.exchange.Goals as goal

pub loop-i-preserved : goal.loop-i-preserved
loop-i-preserved c =
    let i = c.loop-i.i in
    let state = c.loop-i.state in
    let e : c.drawn-state.result ≡ drawn state = c.drawn-state.ensures in
    let more : 2 < i = omega arith in
    let after : c.swap.new.self ≡ swap c.loop-i.starts (i - 1) (1 + drawn state % (i - 1)) = rw e at c.swap.ensures.after in
    record {
      starts = rw e (exchanged_more i state c.loop-i.starts c.swap.new.self more after ∙ c.loop-i.invariant.starts);
      seed = rw e (seed_after_down i state more ∙ c.loop-i.invariant.seed);
    }
