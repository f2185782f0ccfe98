use Rattle.std.proofs.Common.{◌≡◌, drop}
use Rattle.mars_core.specs.Validity.{IsCore}
use Rattle.mars_core.specs.Start.{with_warriors}
use Rattle.mars_core.proofs.battle.start.load_warriors.Given as goal

abbrev pub invariant-loop-i : goal.invariant-loop-i
invariant-loop-i l = record {
  with_warrior_so_far : with_warriors l.core_size (drop l.i l.warriors) (drop l.i l.starts) l.core ≡ with_warriors l.core_size l.warriors l.starts l.initial.core;
  core : IsCore l.core_size l.core;
}
