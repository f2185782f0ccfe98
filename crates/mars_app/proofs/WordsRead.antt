-- The result of parsing the arguments.
use Rattle.std.specs.Global.{Global}
use Rattle.std.specs.Prelude.{String, ◌≡◌, true, List, [], Err}
use Rattle.std.proofs.Common.{◌∙◌, refl, sym, subst, inl, inr}
use Rattle.clap.specs.Faults.{fault_of, is_simple_and_free}
use Rattle.clap.specs.Kinds.{HasKind, IsAmong}
use Rattle.clap.specs.Matches.{found_of}
use Rattle.clap.specs.Simple.{App, HasMatchesOf, app_of, is_simple, matches_of}
use Rattle.clap.specs.Values.{kind_of}
use Rattle.clap.specs.Walk.{Text, rows_of}
use Rattle.clap.specs.declared.builder.command.Command.{Command}
use Rattle.clap.specs.declared.error.Error.{Error}
use Rattle.clap.specs.declared.error.kind.ErrorKind.{ErrorKind}
use Rattle.clap.specs.declared.error.kind.ErrorKind.TheVariants as kind
use Rattle.clap.specs.declared.parser.matches.ArgMatches.{ArgMatches}
use Rattle.clap.proofs.OnLiterals.{clap_on_literals}
use Rattle.mars_app.specs.CommandLine.{mars}
use Rattle.mars_app.specs.Options.{AskForHelp, Reads}
use Rattle.mars_app.specs.Code.Words.{IsFaultOf}
use Rattle.mars_app.specs.declared.options.WordsFault.{WordsFault}
use Rattle.mars_app.specs.declared.options.WordsFault.TheVariants as fault

pub mars_is_simple : is_simple mars ≡ true
unfolding clap_on_literals
mars_is_simple = refl

pub mars_is_free : is_simple_and_free mars ≡ true
unfolding clap_on_literals
mars_is_free = refl

-- An error of `clap` is the error of the definition.
pub refused : (words : List Text) (e : Error) (f : WordsFault) → HasKind (fault_of mars words) e → IsFaultOf (kind_of e) f → Reads words (Err f)
refused words e fault.OutOfMemory kind is = tt
refused words e (fault.Help text) (inl memory) is = let bad : kind.OutOfMemory ≡ kind.DisplayHelp = sym memory ∙ is in cc
refused words e (fault.Help text) (inr among) is = subst (λ (k : ErrorKind). IsAmong k (fault_of mars words)) is among
refused words e fault.BadWords (inl memory) is = absurd (is.1 memory)
refused words e fault.BadWords (inr among) is = inl (kind_of e, among, is.0)

-- The matches of `clap` are those of the arguments.
pub matched : (words : List Text) (c : Command) (m : ArgMatches) → app_of c ≡ mars → HasMatchesOf (app_of c) words m
    → (is_simple_and_free (app_of c) ≡ true → fault_of (app_of c) words ≡ []) → (fault_of mars words ≡ []) × (rows_of (found_of m) ≡ matches_of mars words)
matched words c m is matches kinds = (
  subst (λ (a : App). is_simple_and_free a ≡ true → fault_of a words ≡ []) is kinds mars_is_free,
  (subst (λ (a : App). HasMatchesOf a words m) is matches mars_is_simple).0,
)

pub asks_for_help : (words : List Text) (f : WordsFault) (text : String Global) → Reads words (Err f) → f ≡ fault.Help text → AskForHelp words
asks_for_help words f text reads is = subst (λ (g : WordsFault). Reads words (Err g)) is reads
