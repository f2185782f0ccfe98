use Rattle.std.proofs.lemmas.Result.{err_from_is_err_and}
use Rattle.mars_c.proofs.Entered.{no_entrant}
use Rattle.mars_c.proofs.warriors.warrior_of.Goals as goal

pub returns-in_err-cells-clause-refused : goal.returns-in_err-cells-clause-refused
returns-in_err-cells-clause-refused c =
    let p = err_from_is_err_and c.from_residual.result c.from_residual.ensures.1 in
    rw (p.1, p.2) (no_entrant c.args.params.now c.args.numbers.now c.args.start c.in_err-cells.field-0.0 (rw c.core_size.ensures.value at c.in_err-cells.ensures.refused))
