use Rattle.std.proofs.Common.{◌∙◌, ap}
use Rattle.std.specs.Prelude.{option_and_then}
use Rattle.std.specs.Str.Parse.{ParsesUnsigned, ExplainsUnsignedError, HasUnsignedDigitsIfOk}
use Rattle.clap.proofs.WalkLemmas.{one_text-rows}
use Rattle.clap.specs.Matches.{found_of}
use Rattle.mars_app.specs.Options.{number_of}
use Rattle.mars_app.proofs.Gotten.{number_read}
use Rattle.mars_app.proofs.options.given_number.Goals as goal

pub returns : goal.returns
returns c =
    number_read (λ bs r. ParsesUnsigned 32 10 bs r × ExplainsUnsignedError 10 bs r × HasUnsignedDigitsIfOk bs r) _ c.get_one.result (λ t x h. h.0) c.get_one.ensures.none c.get_one.ensures.value
    ∙ ap (option_and_then number_of) (one_text-rows (found_of c.args.matches.now) c.args.word.now)
