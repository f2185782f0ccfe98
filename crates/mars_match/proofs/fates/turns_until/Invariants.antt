use Rattle.std.proofs.Common.{◌≡◌, drop}
use Rattle.mars_match.specs.Fates.{turns_until}
use Rattle.mars_match.proofs.fates.turns_until.Given as goal

abbrev pub invariant-loop-death : goal.invariant-loop-death
invariant-loop-death l = turns_until (drop l.death-index l.deaths) l.place l.all ≡ turns_until l.deaths l.place l.all
