use Rattle.std.proofs.Common.{◌≡◌, ◌+◌, take}
use Rattle.mars_c.specs.Outcomes.{rows_for}
use Rattle.mars_c.proofs.outcomes.check_rows.Given as goal

abbrev pub invariant-loop-lineup : goal.invariant-loop-lineup
invariant-loop-lineup l = rows_for l.settings (take l.lineup-index l.lineups) + l.rest ≡ l.places
