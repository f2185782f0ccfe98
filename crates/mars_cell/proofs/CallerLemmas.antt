-- Lemmas for the crates above, which can't unfold the definitions: about residues, words, written load files, and
-- several writes one after the other.
pub use Rattle.mars_cell.proofs.ForLaws.CutShort.{CutShort-after, CutShort-back, CutShort-front, flat_map-around, flat_map-one_more, flat_map_cut}
pub use Rattle.mars_cell.proofs.ForLaws.RoundTrip.{modifier_read, op_read}
pub use Rattle.mars_cell.proofs.ForLaws.Values.{residue-less, residue-plain}
pub use Rattle.mars_cell.proofs.ForLaws.WrittenLines.{IsLine, IsPlain, by_recursion, cell_is_plain, cells-same, load-written, name_line, origin_is_plain, plain_line, size_line}
