-- One step of applying the waiting operators.
use Rattle.std.proofs.Common.{◌≡◌, ℕ, ◌≤◌, List, ◌∷◌, [], arith, ap, subst, ℤ, ◌-◌, take, drop, slice_range}
use Rattle.redcode_text.specs.declared.token.Token.{Token}
use Rattle.redcode_text.specs.declared.token.Sign.{Sign}
use Rattle.redcode_text.specs.declared.expression.evaluation.Pending.{Pending}
use Rattle.redcode_text.specs.declared.expression.evaluation.Pending.TheVariants.{Value, Open}
use Rattle.redcode_text.specs.Expression.{kinds}
use Rattle.redcode_text.specs.Code.Climbing.{AreInside}

pub inside-pop : (n : ℕ) (u : ℤ) (s : Sign) (old new : List Pending) → old ≡ Value u s ∷ new → AreInside n old → AreInside n new
inside-pop n u s old new e h = let P : List Pending → Type 0 = AreInside n in subst P e h

-- There are no tokens between an index and itself.
pub none-between : (ts : List Token) (n : ℕ) → kinds (slice_range ts n n) ≡ []
none-between ts n = ap (λ k. kinds (take k (drop n ts))) (let e : n - n ≡ 0 = omega arith in e)

-- The unary operators before the open parenthesis on top of the stack are among the first `n` tokens.
pub inside-open : (n a b : ℕ) (old new : List Pending) → old ≡ Open a b ∷ new → AreInside n old → (a ≤ b) × (b ≤ n)
inside-open n a b old new e h = let P : List Pending → Type 0 = AreInside n in let k = subst P e h in (k.0, k.1)
