use Rattle.std.proofs.Common.{◌≡◌, ℕ, List, [], ◌∷◌, length, set, refl, arith}
use Rattle.mars_match.proofs.setup.Plan.place_round.Goals as goal

two : (xs : List ℕ) (position : ℕ) → length xs ≡ 2 → set (set xs 0 0) 1 position ≡ 0 ∷ position ∷ []
two [] position e = absurd (omega (arith, e))
two (x ∷ []) position e = absurd (omega (arith, e))
two (x ∷ (y ∷ [])) position e = refl
two (x ∷ (y ∷ (z ∷ xs))) position e = absurd (omega (arith, e))

pub returns-in-Some : goal.returns-in-Some
returns-in-Some c =
    let many = rw c.in-Some.is at c.requires.fixed in
    rw (c.in-Some.is, two c.args.starts.now c.in-Some.position many) refl
