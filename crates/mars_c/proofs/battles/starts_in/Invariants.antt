use Rattle.std.proofs.Common.{◌≡◌, ◌-◌}
use Rattle.mars_c.specs.Battles.{placed_in}
use Rattle.mars_c.proofs.battles.starts_in.Given as goal

abbrev pub invariant-loop-before : goal.invariant-loop-before
invariant-loop-before l = placed_in l.setup.params l.warriors l.setup.plan.fixed (l.round - l.before) l.seed ≡ placed_in l.setup.params l.warriors l.setup.plan.fixed l.round l.setup.plan.seed
