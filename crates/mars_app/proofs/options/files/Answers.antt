use Rattle.std.proofs.Common.{◌∙◌, [], ap, codes, List, Option}
use Rattle.std.specs.Prelude.{unwrap_or}
use Rattle.clap.proofs.WalkLemmas.{raw_values-rows}
use Rattle.clap.specs.Matches.{found_of}
use Rattle.clap.specs.Walk.{Text}
use Rattle.mars_app.proofs.Gotten.{all_taken}
use Rattle.mars_app.proofs.options.files.Goals as goal

pub returns-in_default : goal.returns-in_default
returns-in_default c =
    rw c.new-files.ensures.items (ap (λ (given : Option (List Text)). unwrap_or given []) (c.in_default.ensures ∙ raw_values-rows (found_of c.args.matches.now) (codes "FILE")))

pub returns : goal.returns
returns c =
    c.loop-name.invariant.0 ∙ all_taken c.in-Some.names.now c.loop-name.name-index c.loop-name-test.false
    ∙ ap (λ (given : Option (List Text)). unwrap_or given []) (c.in-Some.ensures ∙ raw_values-rows (found_of c.args.matches.now) (codes "FILE"))
