use Rattle.std.proofs.Common.{refl, arith}
use Rattle.mars_core.specs.declared.past.Past.{Past}
use Rattle.mars_core.proofs.Moments.{all_counted, count_few, none_counted, one_counted, other_counted}
use Rattle.mars_core.proofs.battle.moments.owned_cells.Goals.{then-owner-lt-MAX_WARRIORS, else-owner-lt-MAX_WARRIORS}
use Rattle.mars_core.proofs.battle.moments.owned_cells.Goals as goal

abbrev d : Past
d = record { owner = 0; turn = 0; origin = 0 }

pub overflow_add-cells : goal.overflow_add-cells
overflow_add-cells c =
    let few = count_few c.args.pasts.now c.loop-i.i c.loop-i.cells c.loop-i.invariant c.loop-i-test.true d _ c.if-owner-lt-MAX_WARRIORS.true in
    omega (arith, few, c.requires.few, c.loop-i-test.true)

pub loop-i-init : goal.loop-i-init
loop-i-init c = none_counted c.args.pasts.now

pub loop-i-preserved : goal.loop-i-preserved
loop-i-preserved c =
    let pasts = c.args.pasts.now in
    let l = c.loop-i in
    elim c.if-owner-lt-MAX_WARRIORS.branch [
      | then-owner-lt-MAX_WARRIORS t ↦
          rw t.cells-is (one_counted pasts l.i l.cells l.invariant c.loop-i-test.true d _ _ refl t.if-owner-lt-MAX_WARRIORS.true refl)
      | else-owner-lt-MAX_WARRIORS t ↦
          rw t.cells-is (other_counted pasts l.i l.cells l.invariant c.loop-i-test.true d (omega (arith, t.if-owner-lt-MAX_WARRIORS.false)))
    ]

pub returns : goal.returns
returns c = all_counted c.args.pasts.now c.loop-i.i c.loop-i.cells c.loop-i.invariant (omega arith)
