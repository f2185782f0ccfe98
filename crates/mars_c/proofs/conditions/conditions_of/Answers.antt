use Rattle.std.proofs.lemmas.Option.{slice_get-get_or}
use Rattle.mars_c.proofs.conditions.conditions_of.Goals as goal

pub returns-in_default-clause-refused : goal.returns-in_default-clause-refused
returns-in_default-clause-refused c =
    ((_, c.loop-i.invariant), (_, slice_get-get_or c.args.numbers.now c.loop-i.i _ c.loop-i-test.true, c.in_default.ensures.none))
