use Rattle.std.proofs.Common.{rules}
use Rattle.mars_match.specs.Populations.{population_of}
use Rattle.mars_match.proofs.Candidates.{none_before}
use Rattle.mars_match.proofs.populations.population.Goals as goal

pub loop-candidate-init : goal.loop-candidate-init
loop-candidate-init c =
    let plan = c.args.setup.now.plan in
    record {
      many = search rules;
      sums = rw c.in_ok-sums.ensures.items (none_before (population_of c.args.setup.now.params c.args.setup.now.formula plan.fixed plan.rounds plan.seed c.args.opponents.now c.args.candidates.now));
      kept = c.new-matches.ensures c.args.setup.now 2;
    }
