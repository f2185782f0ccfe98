use Rattle.std.proofs.Common.{◌≡◌, length, map, take}
use Rattle.mars_c.specs.Contests.{plain_sum}
use Rattle.mars_c.proofs.rows.give_sums.Given as goal

abbrev pub invariant-loop-i : goal.invariant-loop-i
invariant-loop-i l = record {
  many : length l.place ≡ length l.sums;
  given : take l.i l.place ≡ map plain_sum (take l.i l.sums);
}
