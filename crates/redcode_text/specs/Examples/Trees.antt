-- Examples: the trees that operators form by their levels, the limits of unary operators and parentheses, and the first
-- misplaced token.
use Rattle.std.specs.Prelude.{ℕ, zero, suc, pos, List, [], ◌∷◌, ◌++◌, refl}
use Rattle.std.proofs.Common.{arith, inl, inr}
use Rattle.redcode_text.specs.declared.fault.ExprFault.TheVariants.{Syntax, Depth}
use Rattle.redcode_text.specs.declared.token.Sign.TheVariants.{Plus, Minus, Star}
use Rattle.redcode_text.specs.declared.token.TokenKind.{TokenKind}
use Rattle.redcode_text.specs.declared.token.TokenKind.TheVariants.{Number}
use Rattle.redcode_text.specs.declared.token.TokenKind.TheVariants as token
use Rattle.redcode_text.specs.Expression.{Tree, Numeral, Parens, Unary, Binary, Missing}
use Rattle.redcode_text.specs.Laws.{Misplaced}
use Rattle.redcode_text.specs.Trees.{IsLevelled, IsWithin}

abbrev two : Tree
two = Numeral (pos 2)

-- 2-2-2*2 groups to the left, and the product is below the difference. -2*2 negates only the first 2.
pub levelled : IsLevelled (Binary (Binary two Minus two) Minus (Binary two Star two)) × IsLevelled (Binary (Unary Minus two) Star two)
levelled = ((omega arith, omega arith, omega arith, (omega arith, omega arith, omega arith, tt, tt), (omega arith, omega arith, omega arith, tt, tt)), (omega arith, omega arith, omega arith, (refl, refl, tt), tt))

-- Without parentheses, no sum is below a product or a unary operator, and no difference is the right operand of
-- another. * is no unary operator, and no operand is missing.
pub not_levelled : (IsLevelled (Binary (Binary two Plus two) Star two) → ⊥) × (IsLevelled (Binary two Minus (Binary two Minus two)) → ⊥)
    × (IsLevelled (Unary Minus (Binary two Plus two)) → ⊥) × (IsLevelled (Unary Star two) → ⊥) × (IsLevelled (Binary two Plus Missing) → ⊥)
not_levelled = (λ l. omega (arith, l.1), λ l. omega (arith, l.2), λ l. omega (arith, l.1), λ l. cc (l.0), λ l. l.4)

-- One more parenthesis or unary operator, up to the limit and beyond.
pub limits_of_trees : IsWithin 63 0 (Parens two) × (IsWithin 64 0 (Parens two) → ⊥) × IsWithin 0 63 (Unary Minus two) × (IsWithin 0 64 (Unary Minus two) → ⊥)
limits_of_trees = ((omega arith, tt), λ w. omega (arith, w.0), (omega arith, tt), λ w. omega (arith, w.0))

-- The count of unary operators starts again inside parentheses and after a binary operator.
pub signs_in_a_row : IsWithin 0 64 (Parens (Unary Minus two)) × IsWithin 0 64 (Binary two Plus (Unary Minus two))
signs_in_a_row = ((omega arith, (omega arith, tt)), (tt, (omega arith, tt)))

abbrev minus : TokenKind
minus = token.Sign Minus

abbrev signs : ℕ → List TokenKind
signs zero = []
signs (suc k) = minus ∷ signs k

-- The second of two adjacent numbers is misplaced.
pub two_numbers : Misplaced (Number (pos 1) ∷ Number (pos 2) ∷ minus ∷ []) Syntax
two_numbers = record {
  before = Number (pos 1) ∷ [];
  token = Number (pos 2);
  behind = minus ∷ [];
  parts = refl;
  begun = ([], refl);
  refused = λ begun. cc (begun.1);
  kind = inr (refl, λ leads begun. cc (leads));
}

-- The sixty-fifth unary operator before an operand is misplaced.
pub signs_too_deep : Misplaced (signs 65 ++ Number (pos 1) ∷ []) Depth
signs_too_deep = record {
  before = signs 64;
  token = minus;
  behind = Number (pos 1) ∷ [];
  parts = refl;
  begun = (Number (pos 1) ∷ [], refl);
  refused = λ begun. cc (begun.1);
  kind = inl (refl, refl, ([], refl));
}
