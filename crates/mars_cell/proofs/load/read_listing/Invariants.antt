use Rattle.std.proofs.Common.{◌≡◌, length}
use Rattle.std.specs.Prelude.{All}
use Rattle.mars_cell.specs.Cells.{FitsCore}
use Rattle.mars_cell.specs.Load.{lines_of}
use Rattle.mars_cell.specs.Code.Listing.{listing, load_from, nothing_read}
use Rattle.mars_cell.proofs.load.read_listing.Given as goal

abbrev pub invariant-loop-line : goal.invariant-loop-line
invariant-loop-line l = record {
  same : load_from l.sizes.written l.sizes.core_size l.lines.number (listing l.reading) (lines_of l.lines.rest.now) ≡ load_from l.sizes.written l.sizes.core_size l.initial.lines.number nothing_read (lines_of l.initial.lines.rest.now);
  fit : All (FitsCore l.sizes.core_size) l.reading.cells.items;
}

abbrev pub decreases-loop-line : goal.decreases-loop-line
decreases-loop-line l = length l.lines.rest.now
