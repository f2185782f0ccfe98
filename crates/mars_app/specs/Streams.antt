-- What a run reads and writes.
use Rattle.std.specs.Prelude.{ℕ, List, Option}
use Rattle.std.specs.Io.KnownBytes.{Appends, Keeps}
use Rattle.mars_cell.specs.Output.{CutShort}

-- The bytes that the input has left, and the bytes that were written, if they are known.
pub record StreamsValue : Type 0 where
  pub unread : Option (List ℕ)
  pub written : Option (List ℕ)

-- Nothing was read or written.
abbrev pub Untouched : StreamsValue → StreamsValue → Type 0
Untouched old new = Keeps old.unread new.unread × Keeps old.written new.written

-- Nothing was read, and `text` was written.
abbrev pub Writes : StreamsValue → StreamsValue → List ℕ → Type 0
Writes old new text = Keeps old.unread new.unread × Appends old.written new.written text

-- Nothing was read, and a beginning of `text` was written, not all of it.
abbrev pub WritesInPart : StreamsValue → StreamsValue → List ℕ → Type 0
WritesInPart old new text = Keeps old.unread new.unread × CutShort old.written new.written text
