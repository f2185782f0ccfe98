use Rattle.std.proofs.Common.{◌-◌, refl, arith}
use Rattle.mars_core.proofs.Lineages.{moved_up, was_born, went_on}
use Rattle.mars_core.proofs.battle.ancestors.trace_back.Goals as goal

pub loop-i-preserved-then-first-turn : goal.loop-i-preserved-then-first-turn
loop-i-preserved-then-first-turn c =
    let a = c.args in
    let l = c.loop-i in
    let some = c.loop-i-test.true in
    moved_up a.own.now a.place a.births.now l.i (l.i - 1) l.first l.count l.births _ l.invariant (omega arith) refl c.if-first-turn.true

pub loop-i-preserved-then-first-turn-2 : goal.loop-i-preserved-then-first-turn-2
loop-i-preserved-then-first-turn-2 c =
    let a = c.args in
    let l = c.loop-i in
    let some = c.loop-i-test.true in
    let above = c.if-first-turn.false in
    let other = c.if-first-turn-2.true in
    was_born a.own.now a.place a.births.now l.i (l.i - 1) l.first l.count l.births _ l.invariant (omega arith) refl
    c.put.new.places (omega (arith, above, other)) c.put.ensures

pub loop-i-preserved : goal.loop-i-preserved
loop-i-preserved c =
    let a = c.args in
    let l = c.loop-i in
    let some = c.loop-i-test.true in
    went_on a.own.now a.place a.births.now l.i (l.i - 1) l.first l.count l.births _ l.invariant (omega arith) refl c.if-first-turn-2.false
