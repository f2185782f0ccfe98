use Rattle.std.proofs.Common.{◌≡◌, ◌≤◌, ◌++◌, take, drop, All}
use Rattle.mars_match.specs.Placement.{spread}
use Rattle.mars_match.proofs.placement.spread.Given as goal

abbrev pub invariant-loop-i : goal.invariant-loop-i
invariant-loop-i l = record {
  starts : take l.i l.starts ++ spread l.distance l.i (drop l.i l.starts) ≡ spread l.distance 0 l.initial.starts;
  below : All (λ s. s ≤ 1048576) (drop l.i l.starts);
}
