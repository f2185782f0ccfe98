use Rattle.std.proofs.Common.{◌≡◌, ◌-◌, length}
use Rattle.mars_match.specs.Placement.{exchanged, seed_after}
use Rattle.mars_match.proofs.placement.exchange.Given as goal

abbrev pub invariant-loop-i : goal.invariant-loop-i
invariant-loop-i l = record {
  starts : exchanged (l.i - 2) l.state l.starts ≡ exchanged (length l.initial.starts - 2) l.fn.seed l.initial.starts;
  seed : seed_after (l.i - 2) l.state ≡ seed_after (length l.initial.starts - 2) l.fn.seed;
}
