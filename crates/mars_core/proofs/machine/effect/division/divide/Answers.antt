use Rattle.std.proofs.Common.{arith, ◌∙◌, sym}
use Rattle.mars_cell.specs.declared.instruction.Field.TheVariants.{ANumber}
use Rattle.mars_core.specs.Effect.{Pair}
use Rattle.mars_core.proofs.Pairs.{divided_pairs_drop_zero, divided_pairs_drop_some, FitsCore-with_field}
use Rattle.std.proofs.lemmas.Grind.{common_steps}
use Rattle.mars_core.proofs.machine.effect.division.divide.Goals as goal
use Rattle.mars_core.proofs.machine.effect.division.divide.Goals.{then-divisor-ne0, else-divisor-ne0}

pub loop-from-preserved : goal.loop-from-preserved
loop-from-preserved c =
    let i = c.loop-from.from-index in
    let d : Pair = (ANumber, ANumber) in
    elim c.if-divisor-ne0.branch [
      | then-divisor-ne0 w ↦
          let left = divided_pairs_drop_some c.args.a c.args.pairs.now i d c.loop-from-test.true (λ e. w.if-divisor-ne0.true (c.field-divisor.ensures.value ∙ e)) in
          record { value = grind (arith, left, common_steps); count = grind (arith, left, common_steps); bound = grind arith; fits = rw (w.cell-is, w.with_field-cell.ensures) (FitsCore-with_field _ _ _ _ w.new_number-number.ensures.inside c.loop-from.invariant.fits) }
      | else-divisor-ne0 w ↦
          let left = divided_pairs_drop_zero c.args.a c.args.pairs.now i d c.loop-from-test.true (sym c.field-divisor.ensures.value ∙ w.if-divisor-ne0.false) in
          record { value = cc; count = grind (arith, left); bound = grind arith; fits = grind (arith, common_steps) }
    ]
