use Rattle.std.proofs.Common.{◌≡◌, ◌*◌, All, drop}
use Rattle.mars_match.specs.Leagues.{all_pairs}
use Rattle.mars_match.specs.Code.Keeping.{IsKept}
use Rattle.mars_match.specs.Code.LeagueSteps.{after_matches}
use Rattle.mars_match.specs.Code.Tallies.{IsOf, max_row_rounds}
use Rattle.mars_match.proofs.matches.Matches.play_all.Given as goal

-- The remaining matches lead to the tallies of all matches.
abbrev pub invariant-loop-i : goal.invariant-loop-i
invariant-loop-i l = record {
  sums : after_matches l.setup.params l.setup.formula l.setup.plan.fixed l.setup.plan.rounds l.setup.plan.seed (all_pairs l.i (drop l.i l.warriors)) l.tallies
      ≡ after_matches l.setup.params l.setup.formula l.setup.plan.fixed l.setup.plan.rounds l.setup.plan.seed (all_pairs 0 l.warriors) l.initial.tallies;
  bounds : All (IsOf (l.i * max_row_rounds)) l.tallies;
  kept : IsKept l.setup 2 l.self;
}
