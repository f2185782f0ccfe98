use Rattle.std.proofs.Common.{◌≡◌, ◌-◌, IfSome, length}
use Rattle.mars_match.specs.Code.Lineups.{HasRoom}
use Rattle.mars_match.specs.Fates.{fates}
use Rattle.mars_match.proofs.Gathered.{gathered}
use Rattle.mars_match.proofs.fates.fight_lineup.Given as goal

-- The fates so far and those of the remaining rounds are the fates of all rounds.
abbrev pub invariant-loop-number : goal.invariant-loop-number
invariant-loop-number l = record {
  made : gathered l.fates.items (fates l.counting l.params l.lineup l.plan.fixed (l.plan.rounds - l.number) l.number l.seed)
      ≡ fates l.counting l.params l.lineup l.plan.fixed l.plan.rounds 0 l.plan.seed;
  starts : length l.starts.items ≡ length l.lineup;
  room : IfSome l.last (λ battle. HasRoom l.params (length l.lineup) battle.value);
}
