use Rattle.std.proofs.Common.{◌≡◌, ◌≤◌, drop, map, vec_len}
use Rattle.std.specs.Prelude.{All}
use Rattle.mars_cell.specs.Cells.{FitsCore}
use Rattle.redcode_text.specs.Views.{line_of, predefined_of}
use Rattle.redcode_asm.specs.Code.Sources.{prepend_cells, cells_among}
use Rattle.redcode_asm.proofs.sources.Source.cells_among.Given as goal

abbrev pub invariant-loop-line : goal.invariant-loop-line
invariant-loop-line l = record {
  few : l.index ≤ l.line-index;
  counted : vec_len l.cells ≡ l.index;
  fit : All (FitsCore l.core_size) l.cells.items;
  same : prepend_cells l.cells.items (cells_among (predefined_of l.self.predefined.now) l.core_size l.self.program.now l.index (map line_of (drop l.line-index l.lines)))
      ≡ cells_among (predefined_of l.self.predefined.now) l.core_size l.self.program.now 0 (map line_of l.lines);
}
