use Rattle.std.proofs.Common.{◌≡◌, ◌<◌, length, refl, sym, ◌∙◌, subst, arith}
use Rattle.mars_core.specs.declared.machine.writes.CellChange.{CellChange}
use Rattle.mars_core.proofs.Pasts.{AreNoted, all_noted, note_change, note_same}
use Rattle.mars_core.proofs.past.note_changes.Goals.{then-is_changed, else-is_changed}
use Rattle.mars_core.proofs.past.note_changes.Goals as goal

pub loop-write-preserved : goal.loop-write-preserved
loop-write-preserved c =
    let w = c.write-item.result in
    let i = c.loop-write.write-index in
    let a = c.args in
    let inside : w.address < length a.core.now =
    subst (λ (x : CellChange). x.address < length a.core.now) (sym c.write-item.is) (c.requires.inside i w c.loop-write-test.true) in
    elim c.if-is_changed.branch [
      | then-is_changed t ↦
          rw t.pasts-is
          (note_change a.owner a.turn a.writes.now a.core.now a.pasts.now i c.loop-write.pasts w c.loop-write-test.true (sym c.write-item.is) c.loop-write.invariant
          _ (omega (arith, inside)) refl (sym c.is_changed.ensures ∙ t.if-is_changed.true))
      | else-is_changed t ↦
          rw t.pasts-is
          (note_same a.owner a.turn a.writes.now a.core.now a.pasts.now i c.loop-write.pasts w c.loop-write-test.true (sym c.write-item.is) c.loop-write.invariant
          (sym c.is_changed.ensures ∙ t.if-is_changed.false))
    ]

pub returns : goal.returns
returns c =
    let a = c.args in
    let end : c.loop-write.write-index ≡ length a.writes.now = omega arith in
    all_noted a.owner a.turn a.writes.now a.core.now a.pasts.now c.loop-write.pasts c.requires.size
    (subst (λ i. AreNoted a.owner a.turn a.writes.now a.core.now a.pasts.now i c.loop-write.pasts) end c.loop-write.invariant)
