use Rattle.std.proofs.Common.{◌≡◌, ◌++◌, length, take, drop, arith}
use Rattle.std.proofs.lemmas.Grind.{common_steps}
use Rattle.mars_match.proofs.placement.place.Goals as goal

pub returns-clause-spaced : goal.returns-clause-spaced
returns-clause-spaced c =
    let same : take c.in_ok-starts.starts.len (c.place_all-seed.new.starts ++ drop (length c.place_all-seed.new.starts) c.in_ok-starts.starts.items) ≡ c.place_all-seed.new.starts = grind (arith, common_steps) in
    rw same c.place_all-seed.ensures.spaced
