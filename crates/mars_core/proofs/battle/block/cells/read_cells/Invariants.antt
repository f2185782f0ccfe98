use Rattle.std.proofs.Common.{◌≡◌, ◌*◌, length, take, All}
use Rattle.mars_cell.specs.Cells.{FitsCore}
use Rattle.mars_core.specs.Block.{core_words}
use Rattle.mars_core.proofs.battle.block.cells.read_cells.Given as goal

abbrev pub invariant-loop-address : goal.invariant-loop-address
invariant-loop-address l = record {
  count : length l.cells.items ≡ l.address;
  words : core_words l.cells.items ≡ take (3 * l.address) l.words;
  cells : All (FitsCore l.core_size) l.cells.items;
  room : l.cells.cap ≡ l.initial.cells.cap;
}
