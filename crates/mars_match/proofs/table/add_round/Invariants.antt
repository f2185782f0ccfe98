use Rattle.std.proofs.Common.{◌≡◌, ◌+◌, ◌++◌, All, take, drop}
use Rattle.mars_match.specs.Battles.{in_load_order}
use Rattle.mars_match.specs.Rounds.{Outcome}
use Rattle.mars_match.specs.Code.Tallies.{all_added, IsOf}
use Rattle.mars_match.proofs.table.add_round.Given as goal

abbrev pub invariant-loop-i : goal.invariant-loop-i
invariant-loop-i l =
    let outcome : Outcome = record { lived = in_load_order l.first l.battle; score = l.score } in
    record {
      sums : take l.i l.tallies ++ all_added outcome l.i (drop l.i l.tallies) ≡ all_added outcome 0 l.initial.tallies;
      done : All (IsOf (l.round + 1)) (take l.i l.tallies);
      left : All (IsOf l.round) (drop l.i l.tallies);
    }
