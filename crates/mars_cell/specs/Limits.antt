-- The limits of a battle and of names.
use Rattle.std.specs.Prelude.{ℕ}

-- The maximum number of cells of a core.
abbrev pub max_core_size : ℕ
max_core_size = 1048576

-- The maximum number of processes that a warrior may have at once.
abbrev pub max_processes : ℕ
max_processes = 65536

-- The maximum number of cycles of a battle.
abbrev pub max_cycles : ℕ
max_cycles = 10000000

-- The maximum number of bytes of a name.
abbrev pub max_name_len : ℕ
max_name_len = 60
