use Rattle.std.proofs.Common.{◌≡◌, ◌-◌, ◌∷◌, ◌++◌, length, take}
use Rattle.mars_match.specs.Placement.{draws, seed_after}
use Rattle.mars_match.proofs.placement.draw_values.Given as goal

abbrev pub invariant-loop-i : goal.invariant-loop-i
invariant-loop-i l = record {
  values : take l.i l.starts ++ draws l.room (length l.starts - l.i) l.state ≡ 0 ∷ draws l.room (length l.starts - 1) l.fn.seed;
  seed : seed_after (length l.starts - l.i) l.state ≡ seed_after (length l.starts - 1) l.fn.seed;
}
