-- The limits of a battle.
use Rattle.std.specs.Prelude.{ℕ}

-- The maximum number of warriors in a battle.
abbrev pub max_warriors : ℕ
max_warriors = 16

-- A number of turns that no battle reaches.
abbrev pub turns_bound : ℕ
turns_bound = 170000000
