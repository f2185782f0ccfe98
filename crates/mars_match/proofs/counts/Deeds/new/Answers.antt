use Rattle.std.proofs.Common.{◌∙◌, ap}
use Rattle.mars_match.proofs.Deeds.{deeds_with, fresh_deeds}
use Rattle.mars_match.proofs.counts.Deeds.new.Goals as goal

pub returns : goal.returns
returns c =
    ap (λ marks. deeds_with marks) (c.in_ok-vec.ensures.items_if_clones_equal (λ y e. e))
    ∙ fresh_deeds c.args.core_size
