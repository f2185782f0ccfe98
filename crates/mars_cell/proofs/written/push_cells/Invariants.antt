use Rattle.std.proofs.Common.{◌≡◌, ◌++◌, take, map}
use Rattle.std.specs.List.{flat_map}
use Rattle.mars_cell.specs.Text.{cell_text}
use Rattle.mars_cell.specs.Written.{with_newline}
use Rattle.mars_cell.proofs.written.push_cells.Given as goal

abbrev pub invariant-loop-cell : goal.invariant-loop-cell
invariant-loop-cell l = l.text.items ≡ l.initial.text.items ++ flat_map with_newline (map (cell_text l.core_size) (take l.cell-index l.cells))
