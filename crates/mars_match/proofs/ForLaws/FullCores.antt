-- If the minimum distances of the warriors fill the core, nothing is left to draw.
use Rattle.std.proofs.Common.{◌≡◌, refl, sym, ◌∙◌, ap, subst, ℕ, zero, suc, ◌+◌, ◌*◌, ◌-◌, ◌%◌, ◌≤◌, List, [], ◌∷◌, arith}
use Rattle.mars_cell.specs.Parameters.{Parameters}
use Rattle.mars_match.specs.Placement.{drawn, draws, ascending, spread, room_for, starts_in_order}
use Rattle.mars_match.specs.Laws.{multiples}
use Rattle.mars_match.proofs.Ascending.{ascending_zero}

-- `n` zeros.
abbrev zeros : ℕ → List ℕ
zeros zero = []
zeros (suc n) = 0 ∷ zeros n

draws-zeros : (n seed : ℕ) → draws 1 n seed ≡ zeros n
draws-zeros zero seed = refl
draws-zeros (suc n) seed = let none : drawn seed % 1 ≡ 0 = omega arith in rw (none, draws-zeros n (drawn seed)) refl

ascending-zeros : (n : ℕ) → ascending (zeros n) ≡ zeros n
ascending-zeros zero = refl
ascending-zeros (suc n) = rw (ascending-zeros n) (ascending_zero (zeros n))

spread-zeros : (distance i n : ℕ) → spread distance i (zeros n) ≡ multiples distance i n
spread-zeros distance i zero = refl
spread-zeros distance i (suc n) = let none : 0 + i * distance ≡ i * distance = omega arith in rw (none, spread-zeros distance (i + 1) n) refl

all-zeros : (n seed room count : ℕ) → room ≡ 1 → count ≡ n → draws room count seed ≡ zeros n
all-zeros n seed room count one left = subst (λ r. draws r count seed ≡ zeros n) (sym one) (subst (λ k. draws 1 k seed ≡ zeros n) (sym left) (draws-zeros n seed))

in_order : (distance n seed room count : ℕ) → room ≡ 1 → count ≡ n → spread distance 0 (0 ∷ ascending (draws room count seed)) ≡ multiples distance 0 (suc n)
in_order distance n seed room count one left =
    ap (λ values. spread distance 0 (0 ∷ ascending values)) (all-zeros n seed room count one left)
    ∙ ap (λ values. spread distance 0 (0 ∷ values)) (ascending-zeros n)
    ∙ spread-zeros distance 0 (suc n)

pub full_core : (p : Parameters) (w seed : ℕ) → 1 ≤ w → w * p.distance ≡ p.core_size → starts_in_order p w seed ≡ multiples p.distance 0 w
full_core p zero seed some full = absurd (omega (arith, some))
full_core p (suc n) seed some full =
    let one : p.core_size - suc n * p.distance + 1 ≡ 1 = omega (arith, full) in
    let left : suc n - 1 ≡ n = omega arith in
    in_order p.distance n seed (room_for p (suc n)) (suc n - 1) one left
