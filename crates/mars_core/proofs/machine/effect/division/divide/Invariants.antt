use Rattle.std.proofs.Common.{◌≡◌, ◌+◌, ◌≤◌, drop, length}
use Rattle.mars_cell.specs.Cells.{FitsCore}
use Rattle.mars_core.specs.Effect.{with_pairs, divided_pairs}
use Rattle.mars_core.specs.Code.Opcodes.{new_number}
use Rattle.mars_core.proofs.machine.effect.division.divide.Given as goal

abbrev pub invariant-loop-from : goal.invariant-loop-from
invariant-loop-from l = record {
  value : with_pairs (new_number l.core_size l.op) l.a l.b (divided_pairs l.a (drop l.from-index l.pairs)) l.cell ≡ with_pairs (new_number l.core_size l.op) l.a l.b (divided_pairs l.a l.pairs) l.fn.target;
  count : l.divided + length (divided_pairs l.a (drop l.from-index l.pairs)) ≡ length (divided_pairs l.a l.pairs);
  bound : l.divided ≤ l.from-index;
  fits : FitsCore l.core_size l.cell;
}
