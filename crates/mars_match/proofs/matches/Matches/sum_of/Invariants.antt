use Rattle.std.proofs.Common.{◌≡◌, ◌∷◌, [], drop, length, take}
use Rattle.mars_match.specs.Code.Keeping.{IsKept}
use Rattle.mars_match.specs.Code.Tallies.{IsSumOf}
use Rattle.mars_match.specs.Populations.{no_matches, sum_from}
use Rattle.mars_match.proofs.matches.Matches.sum_of.Given as goal

abbrev pub invariant-loop-i : goal.invariant-loop-i
invariant-loop-i l = record {
  sum : sum_from l.setup.params l.setup.formula l.setup.plan.fixed l.setup.plan.rounds l.setup.plan.seed l.candidate l.total (drop l.i l.opponents)
      ≡ sum_from l.setup.params l.setup.formula l.setup.plan.fixed l.setup.plan.rounds l.setup.plan.seed l.candidate no_matches l.opponents;
  bounds : IsSumOf l.i l.total;
  kept : IsKept l.setup 2 l.self;
  two : length l.lineup ≡ 2;
  first : take 1 l.lineup ≡ l.candidate ∷ [];
}
