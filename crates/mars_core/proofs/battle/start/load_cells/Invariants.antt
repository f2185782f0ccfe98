use Rattle.std.proofs.Common.{◌≡◌, ◌+◌, drop}
use Rattle.mars_core.specs.Validity.{IsCore}
use Rattle.mars_core.specs.Start.{with_warrior}
use Rattle.mars_core.proofs.battle.start.load_cells.Given as goal

abbrev pub invariant-loop-i : goal.invariant-loop-i
invariant-loop-i l = record {
  with_warrior_so_far : with_warrior l.core_size (l.start + l.i) (drop l.i l.cells) l.core ≡ with_warrior l.core_size l.start l.cells l.fn.core;
  core : IsCore l.core_size l.core;
}
