use Rattle.std.proofs.Common.{ap, inl, inr, refl, sym}
use Rattle.mars_app.specs.declared.fault.RunFault.TheVariants.{Formula}
use Rattle.redcode_asm.specs.declared.fault.FormulaFault.TheVariants.{Expression}
use Rattle.mars_app.proofs.Asking.{formula_fails}
use Rattle.mars_app.proofs.runs.setup_of.Goals as goal

pub returns-in-Err-clause-err : goal.returns-in-Err-clause-err
returns-in-Err-clause-err c = inr (inl (c.in-Err.fault, sym c.in-Err.ensures.value, refl))

pub returns-in-Err-Expression-clause-err : goal.returns-in-Err-Expression-clause-err
returns-in-Err-Expression-clause-err c =
    let checks = rw c.as_bytes.ensures.value at c.in-Err-Expression.ensures in
    let fails = formula_fails c.in-Err-Expression.field-0 c.in-Err-Expression.fault _ checks c.in-Err-Expression.field-0-is in
    inr (inr (c.in-Ok.params, sym c.in-Ok.ensures.value, c.in-Err-Expression.fault, fails, ap (λ e. Formula (Expression e)) c.in-Err-Expression.fault-is))
