use Rattle.std.proofs.Common.{◌∙◌, inl, inr, length, rules, sym}
use Rattle.mars_c.specs.Outcomes.{RefusesOutcomes}
use Rattle.mars_c.proofs.outcomes.outcomes_into.Goals as goal

pub returns-in_err-warriors-clause-refused : goal.returns-in_err-warriors-clause-refused
returns-in_err-warriors-clause-refused c =
    let shown : RefusesOutcomes c.args.settings.now c.args.entrants.cells.now c.args.entrants.warriors.now c.args.lineups.now (length c.args.places.now) c.in_err-warriors.field-0.0 =
    inr (inr ((search rules, search rules), inl (c.in_err-warriors.ensures.refused c.args.settings.now (sym c.parameters.ensures ∙ c.in-Ok.is)))) in search rules
