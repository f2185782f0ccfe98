use Rattle.std.proofs.Common.{◌≡◌, ◌-◌, All, length}
use Rattle.mars_match.specs.Code.Keeping.{IsKept}
use Rattle.mars_match.specs.Code.Tallies.{tallied, IsOf}
use Rattle.mars_match.proofs.matches.Matches.play_rounds.Given as goal

-- The remaining rounds lead to the tallies of all rounds.
abbrev pub invariant-loop-number : goal.invariant-loop-number
invariant-loop-number l = record {
  sums : tallied l.setup.params l.lineup l.setup.formula l.setup.plan.fixed (l.setup.plan.rounds - l.number) l.number l.seed l.tallies
      ≡ tallied l.setup.params l.lineup l.setup.formula l.setup.plan.fixed l.setup.plan.rounds 0 l.setup.plan.seed l.initial.tallies;
  bounds : All (IsOf l.number) l.tallies;
  starts : length l.starts.items ≡ length l.lineup;
  kept : IsKept l.setup (length l.lineup) l.self;
}
