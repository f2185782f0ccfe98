use Rattle.std.proofs.Common.{◌≡◌, ◌++◌, drop}
use Rattle.mars_match.specs.Code.Deeds.{listed_at}
use Rattle.mars_match.specs.Fates.{fates_from}
use Rattle.mars_match.proofs.fates.append_fates.Given as goal

abbrev pub invariant-loop-warrior : goal.invariant-loop-warrior
invariant-loop-warrior l = l.fates.items ++ fates_from l.played.battle.value (listed_at l.played.counts.items) l.first l.warrior (drop l.warrior l.starts)
    ≡ l.initial.fates.items ++ fates_from l.played.battle.value (listed_at l.played.counts.items) l.first 0 l.starts
