-- The limits of the options.
use Rattle.std.specs.Prelude.{ℕ}

-- The maximum number of rounds of a match.
abbrev pub max_rounds : ℕ
max_rounds = 100000

-- The maximum number of places that a history keeps beside the last one.
abbrev pub max_history : ℕ
max_history = 1000000
