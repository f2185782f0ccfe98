-- The starting positions of a round, from those of the round before it.
use Rattle.std.proofs.Common.{◌≡◌, ℕ, suc, ◌+◌, ◌-◌, ◌<◌, List, Ok, Option, refl, arith}
use Rattle.mars_cell.specs.Parameters.{Parameters}
use Rattle.mars_match.specs.Rounds.{placed_for}
use Rattle.mars_c.specs.Battles.{placed_in}

pub placed_less : (p : Parameters) (w : ℕ) (fixed : Option ℕ) (n i seed left : ℕ) (starts : List ℕ) → i < n → placed_for p w fixed seed ≡ Ok (starts, left)
    → placed_in p w fixed (n - i) seed ≡ placed_in p w fixed (n - (i + 1)) left
placed_less p w fixed n i seed left starts more placed =
    let e : n - i ≡ suc (n - (i + 1)) = omega arith in
    rw (e, placed) refl
