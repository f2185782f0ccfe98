-- The error of the program for an error of `clap`.
use Rattle.std.specs.Prelude.{◌≡◌, ⊤, false}
use Rattle.clap.specs.declared.error.kind.ErrorKind.{ErrorKind}
use Rattle.clap.specs.declared.error.kind.ErrorKind.TheVariants as kind
use Rattle.mars_app.specs.Options.{is_help}
use Rattle.mars_app.specs.declared.options.WordsFault.{WordsFault}
use Rattle.mars_app.specs.declared.options.WordsFault.TheVariants as fault

-- The error of the program for an error of `clap` of the kind `k`. `OutOfMemory` is possible for every kind.
abbrev pub IsFaultOf : ErrorKind → WordsFault → Type 0
IsFaultOf k (fault.Help text) = k ≡ kind.DisplayHelp
IsFaultOf k fault.BadWords = (is_help k ≡ false) × (k ≡ kind.OutOfMemory → ⊥)
IsFaultOf k fault.OutOfMemory = ⊤
