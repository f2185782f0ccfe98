-- The exit statuses of errors.
use Rattle.std.specs.Prelude.{ℕ}
use Rattle.mars_app.specs.declared.fault.RunFault.{RunFault}
use Rattle.mars_app.specs.declared.fault.RunFault.TheVariants.{Words, Parameters, Formula, CannotRead, TooLarge, Assembly, Load, Placement, Battle, Score, OutOfMemory, Output, Commands}

-- 2 for an error of the arguments, 1 for every other error.
abbrev pub status_of : RunFault → ℕ
status_of Words = 2
status_of (Parameters fault) = 2
status_of (Formula fault) = 2
status_of (CannotRead name) = 1
status_of (TooLarge name) = 1
status_of (Assembly name line fault) = 1
status_of (Load name line fault) = 1
status_of (Placement fault) = 1
status_of (Battle fault) = 1
status_of (Score fault) = 1
status_of OutOfMemory = 1
status_of Output = 1
status_of Commands = 1
