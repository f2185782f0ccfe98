use Rattle.std.proofs.Common.{◌≡◌, ◌==◌, drop}
use Rattle.std.specs.List.{list_any}
use Rattle.mars_core.specs.declared.machine.writes.CellChange.{CellChange}
use Rattle.mars_core.proofs.search.is_written.Given as goal

abbrev pub invariant-loop-write : goal.invariant-loop-write
invariant-loop-write l = list_any (λ (write : CellChange). write.address == l.address) l.writes
    ≡ list_any (λ (write : CellChange). write.address == l.address) (drop l.write-index l.writes)
