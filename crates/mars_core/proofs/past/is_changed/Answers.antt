use Rattle.std.proofs.Common.{not, ap}
use Rattle.mars_core.proofs.Steps.{equal_cells}
use Rattle.mars_core.proofs.past.is_changed.Goals as goal

pub returns : goal.returns
returns c =
    rw (← c.cell_before.ensures, ← c.cell_at.ensures)
    (ap not (equal_cells c.equals.result c.cell_before.result c.cell_at.result c.equals.ensures))
