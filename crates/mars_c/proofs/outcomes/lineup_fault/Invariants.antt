use Rattle.std.proofs.Common.{◌<◌, All, take}
use Rattle.mars_c.proofs.outcomes.lineup_fault.Given as goal

abbrev pub invariant-loop-place : goal.invariant-loop-place
invariant-loop-place l = All (λ i. i < l.count) (take l.place l.lineup.warrior)
