use Rattle.std.proofs.Common.{length, sym, ◌∙◌, refl, arith}
use Rattle.mars_core.specs.Start.{addresses_from}
use Rattle.mars_core.proofs.Overlaps.{shared_step, shared_end}
use Rattle.mars_core.proofs.battle.start.overlap.meets_others.Goals as goal

pub returns-then-rows_share : goal.returns-then-rows_share
returns-then-rows_share c =
    let row = addresses_from c.args.core_size c.args.start (length c.args.warrior.now.cells) in
    let step = shared_step c.args.core_size row c.args.others.now c.args.starts.now c.loop-i.i c.index-others-i.result c.loop-i-test.true c.requires.starts c.index-others-i.is in
    let here = sym (rw (c.cells-len.ensures.value, c.cells.ensures.value) at c.rows_share.ensures) ∙ c.if-rows_share.true in
    sym (sym c.loop-i.invariant ∙ step ∙ rw here refl)

pub loop-i-preserved : goal.loop-i-preserved
loop-i-preserved c =
    let row = addresses_from c.args.core_size c.args.start (length c.args.warrior.now.cells) in
    let step = shared_step c.args.core_size row c.args.others.now c.args.starts.now c.loop-i.i c.index-others-i.result c.loop-i-test.true c.requires.starts c.index-others-i.is in
    let here = sym (rw (c.cells-len.ensures.value, c.cells.ensures.value) at c.rows_share.ensures) ∙ c.if-rows_share.false in
    sym (step ∙ rw here refl) ∙ c.loop-i.invariant

pub returns : goal.returns
returns c =
    let row = addresses_from c.args.core_size c.args.start (length c.args.warrior.now.cells) in
    sym (sym c.loop-i.invariant ∙ shared_end c.args.core_size row c.args.others.now c.args.starts.now c.loop-i.i (omega arith))
