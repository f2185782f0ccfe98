use Rattle.std.proofs.Common.{◌∙◌, ap, codes}
use Rattle.std.proofs.lemmas.Result.{IfOk-weaker}
use Rattle.clap.proofs.WalkLemmas.{first_value-rows}
use Rattle.clap.specs.Matches.{found_of}
use Rattle.mars_app.proofs.Gotten.{text_or_none}
use Rattle.mars_app.proofs.options.score.Goals as goal

pub returns : goal.returns
returns c =
    let read = text_or_none c.get_str.result _ _ (c.get_str.ensures ∙ first_value-rows (found_of c.args.matches.now) (codes "score")) in
    IfOk-weaker c.from_str.result _ _ (λ t is. is ∙ ap (λ s. s.now) c.unwrap_or.ensures ∙ read) c.from_str.ensures.ok
