use Rattle.std.proofs.Common.{◌∙◌, sym}
use Rattle.mars_c.proofs.Refused.{plan_of}
use Rattle.mars_c.proofs.settings.make_setup.Goals as goal

pub returns-in-Err-make_plan-clause-refused : goal.returns-in-Err-make_plan-clause-refused
returns-in-Err-make_plan-clause-refused c = λ cells entrants.
    plan_of c.args.settings.now c.args.formula.now c.args.warriors cells entrants c.in-Err-make_plan.fault (c.in-Err-make_plan.ensures.outside (sym c.parameters.ensures ∙ c.in-Ok.is))
