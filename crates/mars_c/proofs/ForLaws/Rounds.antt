-- Round 0 starts with the warriors in load order, as the debugger does.
use Rattle.std.proofs.Common.{◌≡◌, refl, ℕ, List, length, append-nil, Result, Ok, Err, ◌%◌}
use native.Mathlib.Nat.{zero-mod}
use Rattle.redcode_text.specs.Results.{◌>>=◌}
use Rattle.mars_cell.specs.Parameters.{Parameters}
use Rattle.mars_cell.specs.Warriors.{WarriorValue}
use Rattle.mars_core.specs.Start.{start_fault, start_state}
use Rattle.mars_match.specs.Battles.{rotated, started, unless}
use Rattle.mars_match.specs.Rounds.{placed_for}
use Rattle.mars_match.specs.declared.fault.MatchFault.{MatchFault}
use Rattle.mars_c.specs.Laws.{DebugsRoundZero}

unrotated : {X : Type 0} (n : ℕ) (xs : List X) → rotated (0 % n) xs ≡ xs
unrotated n xs = rw (zero-mod n) (append-nil xs)

same_start : (p : Parameters) (warriors : List WarriorValue) (placed : Result (List ℕ × ℕ) MatchFault)
    → (placed >>= λ found. unless (start_fault p warriors found.0) (start_state p warriors found.0))
    ≡ ((placed >>= λ found. Ok found.0) >>= λ starts. started p warriors starts 0)
same_start p warriors (Err fault) = refl
same_start p warriors (Ok found) = rw (unrotated (length warriors) warriors, unrotated (length warriors) found.0) refl

pub debugs_round_zero : DebugsRoundZero
debugs_round_zero setup warriors = same_start setup.params warriors (placed_for setup.params (length warriors) setup.plan.fixed setup.plan.seed)
