use Rattle.mars_core_tests.proofs.tests.go_back.Goals as goal

pub revert-requires : goal.revert-requires
revert-requires g c = (c.args.before.now, c.requires)

pub returns : goal.returns
returns g c = c.revert.ensures c.args.before.now c.requires
