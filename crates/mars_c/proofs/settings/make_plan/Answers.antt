use Rattle.mars_c.proofs.settings.make_plan.Goals as goal

pub returns-in-Some-clause-outside : goal.returns-in-Some-clause-outside
returns-in-Some-clause-outside c = λ _. c.in-Some.ensures.outside c.args.warriors
