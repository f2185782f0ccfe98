-- Where the items of a source end, as indices of rows.
use Rattle.std.specs.Prelude.{◌≡◌, ℕ, ◌+◌, ◌<◌, ◌≤◌, List, length, drop, map, slice_index}
use Rattle.redcode_text.specs.declared.source.row.SourceRow as code
use Rattle.redcode_text.specs.Code.Rows.{row_of}
use Rattle.redcode_text.specs.Source.{Items, Nothing, Pairing, paired}

-- The pairing of the rows from row `i` on.
abbrev pub paired_from : List code.SourceRow → ℕ → Pairing
paired_from rows i = paired (map row_of (drop i rows))

-- The items from row `i` on, up to the end of the body in which row `i` is.
abbrev pub here_from : List code.SourceRow → ℕ → Items
here_from rows i = (paired_from rows i).here

-- The items from row `i` on end at row `j`, which is a ROF or the end of the source.
pub record EndsAt (rows : List code.SourceRow) (i j : ℕ) : Type 0 where
  pub from : i ≤ j
  pub within : j ≤ length rows
  pub at_end : here_from rows j ≡ Nothing
  pub waiting : (paired_from rows i).waiting ≡ (paired_from rows j).waiting

-- For each row `i`, `ends` has the index of the row that ends the items from row `i` + 1 on, or the number of rows.
abbrev pub AreEnds : List code.SourceRow → List ℕ → Type 0
AreEnds rows ends = (i : ℕ) → i < length rows → EndsAt rows (i + 1) (slice_index ends i)
