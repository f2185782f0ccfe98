use Rattle.std.proofs.Common.{◌≡◌, ◌≤◌, take}
use Rattle.mars_core.specs.Validity.{times_died}
use Rattle.mars_core.proofs.battle.block.validity.times_died.Given as goal

abbrev pub invariant-loop-death : goal.invariant-loop-death
invariant-loop-death l = record {
  times : l.times ≡ times_died (take l.death-index l.deaths) l.warrior;
  few : l.times ≤ l.death-index;
}
