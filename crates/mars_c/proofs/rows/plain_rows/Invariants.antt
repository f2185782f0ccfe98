use Rattle.std.proofs.Common.{◌≡◌, map, take}
use Rattle.mars_c.specs.Contests.{plain_row}
use Rattle.mars_c.proofs.rows.plain_rows.Given as goal

abbrev pub invariant-loop-row : goal.invariant-loop-row
invariant-loop-row l = l.plain.items ≡ map plain_row (take l.row-index l.rows)
