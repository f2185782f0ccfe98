use Rattle.std.proofs.Common.{sym, ◌∙◌, refl, arith}
use Rattle.std.proofs.lemmas.List.{take_rest}
use Rattle.mars_core.proofs.Overlaps.{overlap_step, overlap_end}
use Rattle.mars_core.proofs.battle.start.overlap.has_overlap.Goals as goal

pub returns-then-clashes : goal.returns-then-clashes
returns-then-clashes c =
    let step = overlap_step c.args.core_size c.args.warriors.now c.args.starts.now c.loop-i.i c.index-warriors-i.result c.loop-i-test.true c.requires.starts c.index-warriors-i.is in
    let met = simp take_rest at c.clashes.ensures in
    let here = sym met ∙ c.if-clashes.true in
    sym (sym c.loop-i.invariant ∙ step ∙ rw here refl)

pub loop-i-preserved : goal.loop-i-preserved
loop-i-preserved c =
    let step = overlap_step c.args.core_size c.args.warriors.now c.args.starts.now c.loop-i.i c.index-warriors-i.result c.loop-i-test.true c.requires.starts c.index-warriors-i.is in
    let met = simp take_rest at c.clashes.ensures in
    let here = sym met ∙ c.if-clashes.false in
    sym (step ∙ rw here refl) ∙ c.loop-i.invariant

pub returns : goal.returns
returns c = sym (sym c.loop-i.invariant ∙ overlap_end c.args.core_size c.args.warriors.now c.args.starts.now c.loop-i.i (omega arith))
