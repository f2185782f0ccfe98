use Rattle.mars_core.proofs.Steps.{equal_cells}
use Rattle.mars_core.proofs.machine.effect.pairs.are_equal_cells.Goals as goal

pub returns : goal.returns
returns c = equal_cells c.equals.result c.args.a c.args.b c.equals.ensures
