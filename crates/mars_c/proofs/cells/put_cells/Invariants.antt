use Rattle.std.proofs.Common.{◌≡◌, drop, length, map, take}
use Rattle.mars_c.specs.Cells.{plain_cell}
use Rattle.mars_c.proofs.cells.put_cells.Given as goal

abbrev pub invariant-loop-i : goal.invariant-loop-i
invariant-loop-i l = record {
  many : length l.places ≡ length l.initial.places;
  given : take l.i l.places ≡ map plain_cell (take l.i l.cells);
  rest : drop l.i l.places ≡ drop l.i l.initial.places;
}
