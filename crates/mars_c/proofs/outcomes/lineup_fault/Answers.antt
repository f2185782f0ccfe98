use Rattle.std.proofs.Common.{◌<◌, rules}
use Rattle.std.proofs.lemmas.List.Elements.{All-more}
use Rattle.mars_c.proofs.outcomes.lineup_fault.Goals as goal

pub loop-place-preserved : goal.loop-place-preserved
loop-place-preserved c = All-more (λ i. i < c.args.count) c.args.lineup.now.warrior c.loop-place.place 0 (search rules) c.loop-place.invariant (search rules)
