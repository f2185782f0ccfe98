use Rattle.mars_core_tests.proofs.tests.go_forth.Goals as goal

pub apply-requires : goal.apply-requires
apply-requires g c = (c.args.after.now, c.requires)

pub returns : goal.returns
returns g c = c.apply.ensures c.args.after.now c.requires
