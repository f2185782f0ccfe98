-- What a failed write has written, and texts in columns.
use Rattle.std.specs.Prelude.{ℕ, ◌<◌, ◌-◌, List, ◌++◌, length, replicate, take, Option}
use Rattle.std.specs.Io.KnownBytes.{Appends}

-- A proper prefix of `text` was written: the output changed from `old` to `new`.
abbrev pub CutShort : Option (List ℕ) → Option (List ℕ) → List ℕ → Type 0
CutShort old new text = (n : ℕ) × (n < length text) × Appends old new (take n text)

-- The text `text` right-aligned in `places` columns; a longer text takes as many columns as it needs.
abbrev pub right : ℕ → List ℕ → List ℕ
right places text = replicate (places - length text) 32 ++ text
