-- The limit of a history that evicts places.
use Rattle.std.specs.Prelude.{ℕ}

-- The maximum number of places that a tape that evicts may keep beside the last one.
abbrev pub max_history : ℕ
max_history = 1000000
