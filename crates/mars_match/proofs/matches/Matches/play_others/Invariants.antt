use Rattle.std.proofs.Common.{◌≡◌, ◌+◌, ◌*◌, All, drop, length, take}
use Rattle.mars_match.specs.Code.Keeping.{IsKept}
use Rattle.mars_match.specs.Code.LeagueSteps.{pairs_of_first, after_matches}
use Rattle.mars_match.specs.Code.Tallies.{IsOf, max_rounds, max_row_rounds}
use Rattle.mars_match.proofs.Pairs.{pairs_left}
use Rattle.mars_match.proofs.matches.Matches.play_others.Given as goal

-- The remaining matches lead to the tallies of all matches.
abbrev pub invariant-loop-j : goal.invariant-loop-j
invariant-loop-j l = record {
  sums : after_matches l.setup.params l.setup.formula l.setup.plan.fixed l.setup.plan.rounds l.setup.plan.seed (pairs_left l.i l.j (drop l.i l.warriors) (drop l.j l.warriors)) l.tallies
      ≡ after_matches l.setup.params l.setup.formula l.setup.plan.fixed l.setup.plan.rounds l.setup.plan.seed (pairs_of_first l.i (drop l.i l.warriors)) l.initial.tallies;
  bounds : All (IsOf (l.i * max_row_rounds + l.j * max_rounds)) l.tallies;
  kept : IsKept l.setup 2 l.self;
  two : length l.lineup ≡ 2;
  first : take 1 l.lineup ≡ take 1 (drop l.i l.warriors);
}
