use Rattle.std.proofs.Common.{◌≡◌, ◌∙◌, ◌⊎◌, ◌-◌, Err, rules, sym}
use Rattle.mars_match.specs.declared.fault.MatchFault.TheVariants as fight
use Rattle.mars_c.specs.Battles.{placed_in}
use Rattle.mars_c.proofs.Placed.{placed_less}
use Rattle.mars_c.proofs.Refused.{not_placed}
use Rattle.mars_c.proofs.battles.starts_in.Goals as goal

pub loop-before-preserved : goal.loop-before-preserved
loop-before-preserved c =
    let setup = c.args.setup.now in
    sym (placed_less setup.params c.args.warriors setup.plan.fixed c.args.round c.loop-before.before c.loop-before.seed c.in_ok-_starts.left c.in_ok-_starts._starts.items
    c.loop-before-test.true c.in_ok-_starts.ensures.value) ∙ c.loop-before.invariant

pub returns-in_err-_starts-clause-fault : goal.returns-in_err-_starts-clause-fault
returns-in_err-_starts-clause-fault c =
    let setup = c.args.setup.now in
    let fault = c.in_err-_starts.field-0.0 in
    let shown : (fault ≡ fight.OutOfMemory) ⊎ (placed_in setup.params c.args.warriors setup.plan.fixed c.args.round setup.plan.seed ≡ Err fault) =
    not_placed setup.params c.args.warriors setup.plan.fixed (c.args.round - c.loop-before.before) c.loop-before.seed _ fault c.loop-before.invariant c.in_err-_starts.ensures.value in
    search rules

pub returns-in_err-starts-clause-fault : goal.returns-in_err-starts-clause-fault
returns-in_err-starts-clause-fault c =
    let setup = c.args.setup.now in
    let fault = c.in_err-starts.field-0.0 in
    let shown : (fault ≡ fight.OutOfMemory) ⊎ (placed_in setup.params c.args.warriors setup.plan.fixed c.args.round setup.plan.seed ≡ Err fault) =
    not_placed setup.params c.args.warriors setup.plan.fixed (c.args.round - c.loop-before.before) c.loop-before.seed _ fault c.loop-before.invariant c.in_err-starts.ensures.value in
    search rules
