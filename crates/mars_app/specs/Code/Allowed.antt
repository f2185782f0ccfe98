-- The conditions on options, as the program uses them.
use Rattle.std.specs.Prelude.{◌≡◌, ℕ, ◌+◌, ◌≤◌, false, true, IfSome, vec_len}
use Rattle.mars_core.specs.Limits.{max_warriors}
use Rattle.mars_app.specs.Limits.{max_history, max_rounds}
use Rattle.mars_match.specs.Placement.{max_seed}
use Rattle.mars_cell.specs.Limits.{max_core_size, max_cycles, max_processes}
use Rattle.mars_app.specs.declared.options.Options.{Options}

-- `n` is in the range from `least` to `greatest`, both included.
abbrev pub IsBetween : ℕ → ℕ → ℕ → Type 0
IsBetween least greatest n = (least ≤ n) × (n ≤ greatest)

-- The options `o` have an allowed number of files.
pub record HaveFiles (o : Options) : Type 0 where
  pub count : IsBetween 1 max_warriors (vec_len o.files)
  pub load : o.load ≡ true → vec_len o.files ≡ 1
  pub league : o.league ≡ true → 2 ≤ vec_len o.files

-- `position` is for the second of two warriors of a match, at least the minimum distance from the first one in both
-- directions around the core.
pub record IsFittingPosition (o : Options) (position : ℕ) : Type 0 where
  pub two_files : vec_len o.files ≡ 2
  pub no_league : o.league ≡ false
  pub up : o.distance ≤ position
  pub down : position + o.distance ≤ o.core

-- The options have no position, or one that fits.
abbrev pub HaveFittingPosition : Options → Type 0
HaveFittingPosition o = IfSome o.fixed (IsFittingPosition o)

-- Each number of the options is in its range.
pub record HaveNumbers (o : Options) : Type 0 where
  pub rounds : IsBetween 1 max_rounds o.rounds
  pub core : IsBetween 1 max_core_size o.core
  pub cycles : IsBetween 1 max_cycles o.cycles
  pub processes : IsBetween 1 max_processes o.processes
  pub longest : IsBetween 1 max_core_size o.longest
  pub distance : IsBetween 1 max_core_size o.distance
  pub seed : IsBetween 1 max_seed o.seed
  pub history : IsBetween 1 max_history o.history
  pub read_limit : IfSome o.read_limit (IsBetween 1 max_core_size)
  pub write_limit : IfSome o.write_limit (IsBetween 1 max_core_size)

-- The conditions on options that the program uses.
pub record AreInRange (o : Options) : Type 0 where
  pub numbers : HaveNumbers o
  pub files : HaveFiles o
  pub position : HaveFittingPosition o
