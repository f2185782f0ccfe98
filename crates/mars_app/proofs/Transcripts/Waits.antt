-- Text that waits to be written.
use Rattle.std.proofs.Common.{ℕ, List, [], Option, sym, refl, append-nil}
use Rattle.std.proofs.KnownBytes.{Appends-nil}
use Rattle.std.specs.Io.KnownBytes.{Appends}
use Rattle.mars_cell.specs.Output.{CutShort}
use Rattle.mars_cell.proofs.CallerLemmas.{CutShort-back}
use Rattle.mars_app.specs.Code.Waiting.{Waits}

-- Before anything is written, the whole text waits.
pub first_waits : (a : Option (List ℕ)) (text : List ℕ) → Waits a a text text
first_waits a text = ([], refl, Appends-nil a)

-- Only a beginning of the waiting text is written.
pub sent_part : (a b c : Option (List ℕ)) (waiting text : List ℕ) → CutShort b c waiting → Waits a b waiting text → CutShort a c text
sent_part a b c waiting text cut waits = rw waits.1 (CutShort-back a b c waits.0 waiting waits.2 cut)

-- The whole waiting text is written, so nothing waits any more.
pub none_waits : (a b : Option (List ℕ)) (text : List ℕ) → Appends a b text → Waits a b [] text
none_waits a b text sent = (text, sym (append-nil text), sent)
