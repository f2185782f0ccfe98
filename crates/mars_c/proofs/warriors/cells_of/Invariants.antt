use Rattle.std.proofs.Common.{◌≡◌, All, map, take}
use Rattle.mars_cell.specs.Cells.{FitsCore}
use Rattle.mars_c.specs.Cells.{plain_cell}
use Rattle.mars_c.proofs.warriors.cells_of.Given as goal

abbrev pub invariant-loop-i : goal.invariant-loop-i
invariant-loop-i l = record {
  cells : map plain_cell l.cells.items ≡ take l.i l.numbers;
  fits : All (FitsCore l.core_size) l.cells.items;
}
