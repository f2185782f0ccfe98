use Rattle.std.proofs.Common.{◌≡◌, drop, length}
use Rattle.mars_core.specs.Start.{addresses_from, loaded_addresses}
use Rattle.mars_core.specs.Code.Distances.{share}
use Rattle.mars_core.proofs.battle.start.overlap.meets_others.Given as goal

-- The row has an address in common with the remaining warriors exactly if it has one with any of the others.
abbrev pub invariant-loop-i : goal.invariant-loop-i
invariant-loop-i l =
    let row = addresses_from l.core_size l.start (length l.warrior.cells) in
    share row (loaded_addresses l.core_size (drop l.i l.others) (drop l.i l.starts)) ≡ share row (loaded_addresses l.core_size l.others l.starts)
