use Rattle.mars_match.proofs.Ascending.{permutation_ascending, rises_ascending, non_decreasing, ascending_is}
use Rattle.mars_match.specs.Placement.{ascending}
use Rattle.mars_match.proofs.laws.each_has_one_order.Goals as goal

pub returns : goal.returns
returns c = λ values. record {
  same_values = permutation_ascending values;
  rises = non_decreasing (ascending values) (rises_ascending values);
  only = λ others. ascending_is values others;
}
