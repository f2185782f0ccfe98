use Rattle.std.proofs.Common.{[], get_or}
use Rattle.std.proofs.lemmas.Result.{err_from_is_err_and}
use Rattle.mars_c.specs.declared.outcomes.MarsLineup.{MarsLineup}
use Rattle.mars_c.proofs.Fought.{fought_more, lineup_fails, memory_lineup}
use Rattle.mars_c.proofs.outcomes.fight_all.Goals as goal

abbrev none : MarsLineup
none = record { seed = 0; count = 0; counting = 0; warrior = [] }

pub loop-i-preserved : goal.loop-i-preserved
loop-i-preserved c =
    let made = c.loop-i.invariant in
    fought_more c.args.settings.now c.args.warriors.now c.args.lineups.now c.loop-i.i _ made.0 c.in_ok-fought.fought.fates.items c.loop-i.outcomes.items c.append.new.outcomes.items
    c.loop-i-test.true made.1 made.2 c.in_ok-fought.ensures.fought (rw c.deref.ensures.value at c.in_ok-append.ensures.appended)

pub returns-in_err-fought-clause-refused : goal.returns-in_err-fought-clause-refused
returns-in_err-fought-clause-refused c =
    let p = err_from_is_err_and c.from_residual.result c.from_residual.ensures.1 in
    rw (p.1, p.2) (lineup_fails c.args.settings.now c.args.warriors.now c.args.lineups.now c.loop-i.i _ c.loop-i.invariant.0 c.in_err-fought.field-0.0 c.loop-i-test.true c.loop-i.invariant.1
    c.in_err-fought.ensures.refused)

pub returns-in_err-append-clause-refused : goal.returns-in_err-append-clause-refused
returns-in_err-append-clause-refused c =
    let s = c.args.settings.now in
    let ws = c.args.warriors.now in
    let one = get_or c.args.lineups.now c.loop-i.i none in
    let p = err_from_is_err_and c.from_residual-in_err-append.result c.from_residual-in_err-append.ensures.1 in
    rw (p.1, p.2) (lineup_fails s ws c.args.lineups.now c.loop-i.i none c.loop-i.invariant.0 c.in_err-append.field-0.0 c.loop-i-test.true c.loop-i.invariant.1
    (memory_lineup s ws one c.in_err-append.field-0.0 c.in_err-append.ensures.memory))
