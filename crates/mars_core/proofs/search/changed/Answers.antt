use Rattle.std.proofs.Common.{◌≡◌, ◌<◌, [], ◌∷◌, All, length, take, subst, sym, ap, ◌∙◌, arith, take_all}
use Rattle.std.proofs.lemmas.List.{length-append}
use Rattle.std.proofs.lemmas.List.Elements.{All-push}
use Rattle.mars_core.specs.Start.{is_in}
use Rattle.mars_core.specs.declared.machine.writes.CellChange.{CellChange}
use Rattle.mars_core.proofs.Pasts.{differs}
use Rattle.mars_core.proofs.Searches.{all_changed, differs_changes, none_changed, one_changed}
use Rattle.mars_core.proofs.search.changed.Goals.{then-is_changed, else-is_changed}
use Rattle.mars_core.proofs.search.changed.Goals as goal

pub loop-write-preserved : goal.loop-write-preserved
loop-write-preserved c =
    let w = c.write-item.result in
    let i = c.loop-write.write-index in
    let before = c.loop-write.invariant in
    let writes = c.as_slice-writes.result.now in
    let core = c.args.seen.core.now in
    let addresses = c.loop-write.addresses.items in
    let below = c.loop-write-test.true in
    elim c.if-is_changed.branch [
      | then-is_changed t ↦
          let all : All (λ (x : CellChange). x.address < length core) writes =
          subst (All (λ (x : CellChange). x.address < length core)) (sym c.as_slice-writes.ensures.value) c.requires.inside in
          let here : w.address < length core = subst (λ (x : CellChange). x.address < length core) (sym c.write-item.is) (all i w below) in
          rw (t.addresses-is, t.push.ensures.items) (record {
            few = omega (arith, length-append addresses (w.address ∷ []), before.few);
            inside = All-push (λ a. a < length core) addresses w.address before.inside here;
            found = λ a. one_changed writes core i w below (sym c.write-item.is) a addresses (sym c.is_changed.ensures ∙ t.if-is_changed.true) (before.found a);
          })
      | else-is_changed t ↦
          rw t.addresses-is (record {
            few = omega (arith, before.few);
            inside = before.inside;
            found = λ a. none_changed writes core i w below (sym c.write-item.is) a addresses (sym c.is_changed.ensures ∙ t.if-is_changed.false) (before.found a);
          })
    ]

pub returns-clause-used : goal.returns-clause-used
returns-clause-used c = λ s seen a inside.
    let writes = c.as_slice-writes.result.now in
    let core = c.args.seen.core.now in
    let all : take c.loop-write.write-index writes ≡ writes = take_all c.loop-write.write-index writes c.loop-write-test.false in
    let there : a < length core = rw seen.size inside in
    let found : is_in c.loop-write.addresses.items a ≡ differs writes core a =
    c.loop-write.invariant.found a ∙ rw all (all_changed writes core a there) in
    found ∙ ap (λ w. differs w core a) c.as_slice-writes.ensures.value ∙ differs_changes s core c.args.seen.atom.now a seen
