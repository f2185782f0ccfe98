use Rattle.std.proofs.Common.{◌∙◌, ap, false, codes}
use Rattle.std.specs.Option.{option_map_or}
use Rattle.std.specs.Str.{bytes_eq}
use Rattle.clap.proofs.WalkLemmas.{one_text-rows}
use Rattle.clap.specs.Matches.{found_of}
use Rattle.clap.specs.Walk.{Text}
use Rattle.mars_app.proofs.Gotten.{flag_read}
use Rattle.mars_app.proofs.options.is_given.Goals as goal

pub returns : goal.returns
returns c =
    c.unwrap_or.ensures ∙ flag_read _ _ c.get_one.result c.get_one.ensures.none c.get_one.ensures.value
    ∙ ap (λ text. option_map_or (λ (t : Text). bytes_eq t (codes "true")) text false) (one_text-rows (found_of c.args.matches.now) c.args.word.now)
