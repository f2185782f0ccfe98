use Rattle.std.proofs.Common.{length, sym, ap, ◌∙◌, arith}
use Rattle.mars_cell.specs.Parameters.{Parameters}
use Rattle.mars_core.specs.State.{State}
use Rattle.mars_core.specs.Moments.{moment_of}
use Rattle.mars_core.proofs.Fights.{shape_after}
use Rattle.mars_core.proofs.Moments.{all_made, none_made, one_made}
use Rattle.mars_core.proofs.battle.Battle.moments.Goals as goal

pub loop-i-init : goal.loop-i-init
loop-i-init c =
    none_made (length c.args.moments.now) c.args.step c.args.conditions.now c.args.self.now c.args.pasts.now c.args.moments.now c.requires.size

pub moment-requires : goal.moment-requires
moment-requires c =
    let params = (shape_after c.args.step c.loop-i.self).params in
    record {
      size =
          c.follow-found.auto.pasts ∙ c.loop-i.invariant.size ∙ ap (λ (p : Parameters). p.core_size) (sym params)
          ∙ ap (λ (t : State). t.params.core_size) (sym c.follow-found.ensures.battle);
    }

pub loop-i-preserved : goal.loop-i-preserved
loop-i-preserved c =
    let a = c.args in
    let l = c.loop-i in
    let made = c.follow-found.ensures in
    let params = ap (λ (t : State). t.params) made.battle ∙ (shape_after a.step l.self).params in
    one_made (length a.moments.now) a.step a.conditions.now a.self.now a.pasts.now l.i l.self l.pasts l.moments l.invariant
    c.follow-found.new.self c.follow-found.new.pasts c.moment.result c.loop-i-test.true (omega (arith, l.auto.moments, c.loop-i-test.true))
    made.battle made.pasts params (c.moment.ensures ∙ ap (λ n. moment_of c.follow-found.new.self c.follow-found.new.pasts n) made.count)

pub returns-clause-moments : goal.returns-clause-moments
returns-clause-moments c =
    let a = c.args in
    let l = c.loop-i in
    let all = all_made (length a.moments.now) a.step a.conditions.now a.self.now a.pasts.now l.i l.self l.pasts l.moments l.invariant
    c.loop-i-test.false (omega (arith, l.auto.moments, c.loop-i-test.false)) in
    all.0

pub returns-clause-pasts : goal.returns-clause-pasts
returns-clause-pasts c =
    let a = c.args in
    let l = c.loop-i in
    let all = all_made (length a.moments.now) a.step a.conditions.now a.self.now a.pasts.now l.i l.self l.pasts l.moments l.invariant
    c.loop-i-test.false (omega (arith, l.auto.moments, c.loop-i-test.false)) in
    all.1

pub returns-clause-battle : goal.returns-clause-battle
returns-clause-battle c =
    let a = c.args in
    let l = c.loop-i in
    let all = all_made (length a.moments.now) a.step a.conditions.now a.self.now a.pasts.now l.i l.self l.pasts l.moments l.invariant
    c.loop-i-test.false (omega (arith, l.auto.moments, c.loop-i-test.false)) in
    all.2
