use Rattle.std.proofs.Common.{◌≡◌, Some, length, map, take}
use Rattle.std.specs.Prelude.{slice_get}
use Rattle.mars_c.proofs.outcomes.choose.Given as goal

abbrev pub invariant-loop-place : goal.invariant-loop-place
invariant-loop-place l = record {
  chosen : map (λ i. slice_get l.warriors i) (take l.place l.lineup.warrior) ≡ map (λ w. Some w) l.chosen.items;
  many : length l.chosen.items ≡ l.place;
}
