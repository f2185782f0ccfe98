-- The shape of the tokens from an index on, one token at a time.
use Rattle.std.proofs.Common.{◌≡◌, ℕ, ◌+◌, ◌<◌, drop, length, get_or, refl, ap, ◌∙◌, List, ◌∷◌, Ok, Err, add-one}
use Rattle.std.proofs.Math.Seq.{drop-cons}
use Rattle.redcode_text.specs.Results.{◌>>=◌}
use Rattle.redcode_text.specs.declared.token.Token.{Token}
use Rattle.redcode_text.specs.declared.fault.ExprFault.{ExprFault}
use Rattle.redcode_text.specs.declared.expression.shape.ShapeState.{ShapeState}
use Rattle.redcode_text.specs.Expression.{next_state, kinds, shape}

-- The kinds from the index `i` on are the kind of the token `i` and the kinds after it.
pub kinds-drop : (ts : List Token) (i : ℕ) (d : Token) → i < length ts → kinds (drop i ts) ≡ (get_or ts i d).kind ∷ kinds (drop (i + 1) ts)
kinds-drop ts i d h = rw (drop-cons ts i d h, add-one) refl

pub shape-ok : (p q : ShapeState) (ts : List Token) (i : ℕ) (d : Token) → i < length ts → next_state p (get_or ts i d).kind ≡ Ok q → shape p (kinds (drop i ts)) ≡ shape q (kinds (drop (i + 1) ts))
shape-ok p q ts i d h e = ap (shape p) (kinds-drop ts i d h) ∙ ap (λ r. r >>= λ q. shape q (kinds (drop (i + 1) ts))) e

pub shape-err : (p : ShapeState) (f : ExprFault) (ts : List Token) (i : ℕ) (d : Token) → i < length ts → next_state p (get_or ts i d).kind ≡ Err f → shape p (kinds (drop i ts)) ≡ Err f
shape-err p f ts i d h e = ap (shape p) (kinds-drop ts i d h) ∙ ap (λ r. r >>= λ q. shape q (kinds (drop (i + 1) ts))) e
