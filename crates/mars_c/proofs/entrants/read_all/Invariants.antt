use Rattle.std.proofs.Common.{◌≡◌, length, take}
use Rattle.mars_c.specs.Entrants.{Reads}
use Rattle.mars_c.proofs.entrants.read_all.Given as goal

abbrev pub invariant-loop-i : goal.invariant-loop-i
invariant-loop-i l = (length l.warriors.items ≡ l.i) × Reads l.params l.entrants.cells.now (take l.i l.entrants.warriors.now) l.warriors.items l.rest
