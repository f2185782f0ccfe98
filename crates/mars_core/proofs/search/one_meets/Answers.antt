use Rattle.std.proofs.Common.{◌<◌, All, subst, sym, ap, ◌∙◌}
use Rattle.std.proofs.lemmas.List.Folds.{list_any_at}
use Rattle.std.proofs.lemmas.List.{drop_all}
use Rattle.std.specs.List.{list_all, list_any}
use Rattle.mars_core.specs.Search.{holds, on}
use Rattle.mars_core.proofs.Searches.{met_by}
use Rattle.mars_core.proofs.search.one_meets.Goals as goal

pub returns-then-all_hold : goal.returns-then-all_hold
returns-then-all_hold c = λ s seen used.
    let a = c.args in
    let inside : All (λ x. x < s.params.core_size) a.used.now = subst (λ m. All (λ x. x < m) a.used.now) seen.size c.requires.inside in
    let here = sym (c.all_hold.ensures s seen) ∙ c.if-all_hold.true in
    sym (met_by a.way a.conditions.now s a.seen.pasts.now a.used.now inside used
    ∙ list_any_at (λ x. list_all (holds s a.seen.pasts.now x) (on a.way a.conditions.now)) a.used.now c.loop-address.address-index _ c.loop-address-test.true here)

pub returns : goal.returns
returns c = λ s seen used.
    let a = c.args in
    let inside : All (λ x. x < s.params.core_size) a.used.now = subst (λ m. All (λ x. x < m) a.used.now) seen.size c.requires.inside in
    sym (met_by a.way a.conditions.now s a.seen.pasts.now a.used.now inside used
    ∙ c.loop-address.invariant s seen
    ∙ ap (list_any (λ x. list_all (holds s a.seen.pasts.now x) (on a.way a.conditions.now))) (drop_all c.loop-address.address-index a.used.now c.loop-address-test.false))
