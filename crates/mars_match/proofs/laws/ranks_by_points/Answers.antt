use Rattle.mars_match.specs.Results.{ranked}
use Rattle.mars_match.proofs.Ranking.{permutation_ranked, descends_ranked, falls, level_ranked}
use Rattle.mars_match.proofs.laws.ranks_by_points.Goals as goal

pub returns : goal.returns
returns c = λ rows. record {
  same_rows = permutation_ranked rows;
  falls = falls (ranked rows) (descends_ranked rows);
  ties = λ points. level_ranked points rows;
}
