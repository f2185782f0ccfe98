-- Text that waits to be written.
use Rattle.std.specs.Prelude.{◌≡◌, ℕ, List, ◌++◌, Option}
use Rattle.std.specs.Io.KnownBytes.{Appends}

-- From `old` to `now` the first part of `text` was written, and the rest is `waiting`.
abbrev pub Waits : Option (List ℕ) → Option (List ℕ) → List ℕ → List ℕ → Type 0
Waits old now waiting text = (sent : List ℕ) × (text ≡ sent ++ waiting) × Appends old now sent
