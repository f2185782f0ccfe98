use Rattle.std.proofs.Common.{◌≡◌, drop, length}
use Rattle.mars_match.specs.Code.Keeping.{IsKept}
use Rattle.mars_match.specs.Populations.{population_of}
use Rattle.mars_match.proofs.Candidates.{before}
use Rattle.mars_match.proofs.populations.population.Given as goal

abbrev pub invariant-loop-candidate : goal.invariant-loop-candidate
invariant-loop-candidate l = record {
  many : length l.sums.items ≡ l.candidate-index;
  sums : before l.sums.items (population_of l.setup.params l.setup.formula l.setup.plan.fixed l.setup.plan.rounds l.setup.plan.seed l.opponents (drop l.candidate-index l.candidates))
      ≡ population_of l.setup.params l.setup.formula l.setup.plan.fixed l.setup.plan.rounds l.setup.plan.seed l.opponents l.candidates;
  kept : IsKept l.setup 2 l.matches;
}
