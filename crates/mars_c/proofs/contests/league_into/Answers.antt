use Rattle.std.proofs.Common.{inl, inr, length, rules}
use Rattle.mars_c.specs.Refusals.{RefusesLeague}
use Rattle.mars_c.proofs.Refused.{memory}
use Rattle.mars_c.proofs.contests.league_into.Goals as goal

pub returns-in_err-table-clause-refused : goal.returns-in_err-table-clause-refused
returns-in_err-table-clause-refused c =
    let shown : RefusesLeague c.args.settings.now c.args.formula.now c.args.entrants.cells.now c.args.entrants.warriors.now (length c.args.place.now) c.in_err-table.field-0.0 =
    inr (inr c.in_err-table.ensures.refused) in
    search rules

pub returns-clause-refused : goal.returns-clause-refused
returns-clause-refused c =
    inr (inr (inl (memory c.args.settings.now c.args.formula.now 0 c.args.entrants.cells.now c.args.entrants.warriors.now c.in-Err.fault c.refused_fight.result
    c.refused_fight.ensures c.in-Err.ensures.memory)))
