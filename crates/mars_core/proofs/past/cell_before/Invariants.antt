use Rattle.std.proofs.Common.{◌≡◌, drop}
use Rattle.mars_core.specs.Record.{restored}
use Rattle.mars_core.specs.State.{cell_at}
use Rattle.mars_core.proofs.past.cell_before.Given as goal

-- None of the writes so far is at the address, so they do not matter to the cell there.
abbrev pub invariant-loop-write : goal.invariant-loop-write
invariant-loop-write l = cell_at (restored l.writes l.core) l.address ≡ cell_at (restored (drop l.write-index l.writes) l.core) l.address
