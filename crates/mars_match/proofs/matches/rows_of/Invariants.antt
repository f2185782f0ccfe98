use Rattle.std.proofs.Common.{◌≡◌, true, take}
use Rattle.std.specs.List.{list_all}
use Rattle.mars_match.specs.Rounds.{fits_in_64}
use Rattle.mars_match.specs.Code.Tallies.{rows_with}
use Rattle.mars_match.proofs.matches.rows_of.Given as goal

abbrev pub invariant-loop-i : goal.invariant-loop-i
invariant-loop-i l = record {
  rows : l.rows.items ≡ take l.i (rows_with l.warriors l.tallies);
  fit : list_all (λ row. fits_in_64 row.points) (take l.i (rows_with l.warriors l.tallies)) ≡ true;
}
