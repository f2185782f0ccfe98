use Rattle.std.proofs.Common.{inl, length}
use Rattle.mars_match.specs.Placement.{FitsTwo}
use Rattle.mars_c.proofs.Fought.{is_fought, is_refused}
use Rattle.mars_c.proofs.outcomes.fight_lineup.Goals as goal

pub returns-in-Err-clause-refused : goal.returns-in-Err-clause-refused
returns-in-Err-clause-refused c =
    let outside = rw c.seeded.ensures at c.in-Err.ensures.outside in
    inl (outside c.requires.params)

pub returns-in-Ok-fight_rounds-clause-fought : goal.returns-in-Ok-fight_rounds-clause-fought
returns-in-Ok-fight_rounds-clause-fought c =
    let plan = c.in-Ok.plan in
    let chosen = c.in_ok-chosen.chosen.items in
    let planned = rw c.seeded.ensures at c.in-Ok.ensures.plan in
    let fits : FitsTwo c.args.params.now (length chosen) plan.fixed = rw c.in_ok-chosen.ensures.many c.in-Ok.ensures.fits in
    is_fought c.args.settings.now c.args.warriors.now c.args.lineup.now c.args.params.now plan chosen c.requires.params planned
    c.in_ok-chosen.ensures.chosen c.in-Ok-fight_rounds.fought.fates.items fits c.in-Ok-fight_rounds.ensures

pub returns-in-Err-fight_rounds-clause-refused : goal.returns-in-Err-fight_rounds-clause-refused
returns-in-Err-fight_rounds-clause-refused c =
    let planned = rw c.seeded.ensures at c.in-Ok.ensures.plan in
    is_refused c.args.settings.now c.args.warriors.now c.args.lineup.now c.args.params.now c.in-Ok.plan c.in_ok-chosen.chosen.items c.requires.params planned
    c.in_ok-chosen.ensures.chosen c.in-Err-fight_rounds.fault c.refused_fight.result c.in-Err-fight_rounds.ensures c.refused_fight.ensures
