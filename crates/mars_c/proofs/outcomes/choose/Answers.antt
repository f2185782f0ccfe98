use Rattle.std.proofs.Common.{◌≡◌, ◌∙◌, Some, ap, get_or, length, rules, sym}
use Rattle.std.specs.Prelude.{slice_get}
use Rattle.std.proofs.lemmas.Option.{slice_get-get_or}
use Rattle.mars_c.proofs.Fought.{chosen_more, index_inside}
use Rattle.mars_c.proofs.outcomes.choose.Goals as goal

pub loop-place-preserved : goal.loop-place-preserved
loop-place-preserved c =
    let ws = c.args.warriors.now in
    let indices = c.args.lineup.now.warrior in
    let place = c.loop-place.place in
    let there : slice_get ws (get_or indices place 0) ≡ Some c.in-Ok.warrior =
    slice_get-get_or ws (get_or indices place 0) c.index-warriors-lineup.result (index_inside c.args.lineup.now.count (length ws) indices place c.requires.indices c.loop-place-test.true (search rules))
    ∙ ap (λ w. Some w) (sym c.index-warriors-lineup.is ∙ sym c.in-Ok.ensures) in
    record {
      chosen = rw c.in-Ok-push.ensures.items (chosen_more ws indices place 0 c.in-Ok.warrior c.loop-place.chosen.items (search rules) there c.loop-place.invariant.chosen);
      many = search rules;
    }
