use Rattle.std.proofs.Common.{rules, refl}
use Rattle.std.proofs.lemmas.Option.{slice_get-get_or}
use Rattle.mars_c.proofs.PlayedBlocks.{mean_next}
use Rattle.mars_c.proofs.edits.edits_of.Goals as goal

pub returns-in_default-clause-refused : goal.returns-in_default-clause-refused
returns-in_default-clause-refused c =
    ((_, c.loop-i.invariant), (_, slice_get-get_or c.args.numbers.now c.loop-i.i _ c.loop-i-test.true, c.in_default.ensures.none))

pub loop-i-preserved : goal.loop-i-preserved
loop-i-preserved c =
    let next = mean_next c.args.numbers.now c.loop-i.edits.items c.loop-i.i _ _ c.in-Some.edit c.loop-i.invariant c.loop-i-test.true refl c.in-Some.ensures.some in
    search (rules, next)
