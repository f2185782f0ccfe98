-- Lemmas on numbers and cells that are read by value.
-- A file of version 1 counts as written for the core that reads it, so both versions share one grammar; at equal sizes values are
-- plain residues (`value_is_residue`).
use Rattle.std.proofs.Common.{◌≡◌, refl, ℕ, ℤ, pos, negsuc, ◌/◌, ◌<◌, ◌≤◌, true, false, ◌∙◌, ap, nat_le, arith}
use Rattle.std.proofs.lemmas.Int.{int_rem_euclid_is, ints}
use Rattle.std.specs.Prelude.{◌+ℤ◌, ◌-ℤ◌, ◌*◌}
use Rattle.std.specs.Int.RustNames.{unsigned_abs}
use Rattle.std.proofs.Math.Nat.{mod-eq_of_lt}
use Rattle.mars_cell.specs.declared.instruction.Cell.{Cell}
use Rattle.mars_cell.specs.Cells.{FitsCore}
use Rattle.mars_cell.specs.Laws.{carried, carried_number}
use Rattle.mars_cell.specs.Numbers.{by_value, nearest, residue}

residue-below : (m : ℕ) (z : ℤ) → 1 ≤ m → residue m z < m
residue-below m (pos n) some = omega arith
residue-below m (negsuc n) some = omega arith

-- A number below `m` is its own residue modulo `m`, and it is the residue of the negative number that refers to the same cell.
pub residue-plain : (m n : ℕ) → n < m → residue m (pos n) ≡ n
residue-plain m n below = mod-eq_of_lt below

pub residue-less : (m n : ℕ) (z : ℤ) → n < m → z +ℤ pos (1 * m) ≡ pos n → residue m z ≡ n
residue-less m n z below e = ap unsigned_abs (int_rem_euclid_is z (pos m) m 1 n (omega arith) refl e) ∙ mod-eq_of_lt below

-- In a core of the size that a number was written for, the number is taken modulo that size.
pub by_value-same : (m : ℕ) (z : ℤ) → 1 ≤ m → by_value m m z ≡ residue m z
unfolding nearest
by_value-same m z some =
    let below : residue m z < m = residue-below m z some in
    elim (nat_le (residue m z) (m / 2)) as (λ t. nat_le (residue m z) (m / 2) ≡ t → by_value m m z ≡ residue m z) [
      | true ↦ λ e. rw e (residue-plain m (residue m z) below)
      | false ↦ λ e. rw e (residue-less m (residue m z) (pos (residue m z) -ℤ pos m) below (omega (arith, ints)))
    ] refl

-- Numbers with equal residues have equal values.
pub by_value-residue : (m size : ℕ) (y z : ℤ) → residue m y ≡ residue m z → by_value m size y ≡ by_value m size z
unfolding nearest
by_value-residue m size y z same = rw same refl

carried_number-same : (m n : ℕ) → n < m → carried_number m m n ≡ n
carried_number-same m n below = by_value-same m (pos n) (omega arith) ∙ residue-plain m n below

-- In a core of the same size, a carried cell is unchanged.
pub carried-same : (m : ℕ) (c : Cell) → FitsCore m c → carried m m c ≡ c
carried-same m c fits = rw (carried_number-same m c.a fits.a, carried_number-same m c.b fits.b) refl
