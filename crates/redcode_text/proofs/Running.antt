-- The steps of the loop that evaluates an expression, from its start to the end, and the room on the stack.
use Rattle.std.proofs.Common.{◌≡◌, ℕ, ◌+◌, ◌<◌, ◌≤◌, List, [], ◌∷◌, length, drop, get_or, slice_range, slice_get, false, ℤ, pos, Option, Some, Ok, Err, IfSome, refl, ap, sym, subst, ◌∙◌, arith, add-one, length-drop}
use Rattle.std.proofs.Math.Seq.{drop-cons}
use Rattle.std.proofs.lemmas.Option.{slice_get-get_or}
use Rattle.redcode_text.specs.Results.{◌>>=◌}
use Rattle.redcode_text.specs.declared.token.Token.{Token}
use Rattle.redcode_text.specs.declared.token.TokenKind.TheVariants.{Number}
use Rattle.redcode_text.specs.declared.fault.ExprFault.{ExprFault}
use Rattle.redcode_text.specs.declared.expression.evaluation.Pending.{Pending}
use Rattle.redcode_text.specs.declared.expression.shape.ShapeState.{ShapeState}
use Rattle.redcode_text.specs.Code.Progress.{Progress}
use Rattle.redcode_text.specs.Expression.{kinds, shape, start, next_state, value_of}
use Rattle.redcode_text.specs.Code.Climbing.{wants, run, waiting_all, seen, AreInside}
use Rattle.redcode_text.specs.Code.Positions.{Corresponds, IsOrdered, reduced_on, advance, run_on, finished}
use Rattle.redcode_text.proofs.Reducing.{none-between}
use Rattle.redcode_text.proofs.Standing.{stands-next, bind-ok, rest_of}
use Rattle.redcode_text.proofs.Linking.{linked}
use Rattle.redcode_text.proofs.Evaluates.{evaluates}

blank : Token
blank = record { kind = Number (pos 0); line = 0; from = 0; to = 0 }

-- The token of `ts` at the index `n`, and the tokens from the index `n` on.
pub record At (ts : List Token) (n : ℕ) : Type 0 where
  pub token : Token
  pub found : slice_get ts n ≡ Some token
  pub rest : drop n ts ≡ token ∷ drop (n + 1) ts

at : (ts : List Token) (n : ℕ) → n < length ts → At ts n
at ts n lt = record { token = get_or ts n blank; found = slice_get-get_or ts n blank lt; rest = rw (drop-cons ts n blank lt, add-one) refl }

module _ (names : ℕ → Option ℤ) (ts : List Token) (n : ℕ) (r : Progress) (lt : n < length ts) where
  pub step-ok : (next : Progress) → IfSome (slice_get ts n) (λ t. advance names ts n r t.kind ≡ Ok next) → run_on names ts n r (drop n ts) ≡ run_on names ts (n + 1) next (drop (n + 1) ts)
  step-ok next h =
      let a = at ts n lt in
      let e = subst (λ o. IfSome o (λ t. advance names ts n r t.kind ≡ Ok next)) a.found h in
      ap (run_on names ts n r) a.rest ∙ ap (λ y. y >>= λ q. run_on names ts (n + 1) q (drop (n + 1) ts)) e

  pub step-err : (f : ExprFault) → IfSome (slice_get ts n) (λ t. advance names ts n r t.kind ≡ Err f) → run_on names ts n r (drop n ts) ≡ Err f
  step-err f h =
      let a = at ts n lt in
      let e = subst (λ o. IfSome o (λ t. advance names ts n r t.kind ≡ Err f)) a.found h in
      ap (run_on names ts n r) a.rest ∙ ap (λ y. y >>= λ q. run_on names ts (n + 1) q (drop (n + 1) ts)) e

  pub step-stands : (next : Progress) → IfSome (slice_get ts n) (λ t. advance names ts n r t.kind ≡ Ok next) → (p : ShapeState) × Corresponds n r p × (shape p (kinds (drop n ts)) ≡ Ok tt) → (p : ShapeState) × Corresponds (n + 1) next p × (shape p (kinds (drop (n + 1) ts)) ≡ Ok tt)
  step-stands next h s =
      let a = at ts n lt in
      let e = subst (λ o. IfSome o (λ t. advance names ts n r t.kind ≡ Ok next)) a.found h in
      let shaped : shape s.0 (kinds (a.token ∷ drop (n + 1) ts)) ≡ Ok tt = ap (λ l. shape s.0 (kinds l)) (sym a.rest) ∙ s.2 in
      let q = bind-ok (next_state s.0 a.token.kind) (λ q. shape q (kinds (drop (n + 1) ts))) tt shaped in
      (q.0, stands-next names ts n r next s.0 q.0 a.token.kind s.1 q.1 e, q.2)

pub room_after : (n places : ℕ) (r : Progress) (p : ShapeState) → Corresponds n r p → length r.stack < places
    → (k : ℕ) (w : ℤ) (stack : List Pending) → reduced_on k r.stack r.value ≡ Ok (w, stack) → length stack < places
room_after n places r p s small k w stack e =
    let rest = rest_of n k p.opened r.stack r.value w stack e s.ordered s.inside in omega (arith, rest.shorter, small)

pub finish : (names : ℕ → Option ℤ) (ts : List Token) (n : ℕ) (r : Progress) → length ts ≤ n → finished r ≡ run_on names ts n r (drop n ts)
finish names ts n r le = sym (ap (run_on names ts n r) (nothing (drop n ts) (let e : length (drop n ts) ≡ 0 = omega (arith, length-drop n ts) in e)))
  where
    nothing : (l : List Token) → length l ≡ 0 → l ≡ []
    nothing [] e = refl
    nothing (x ∷ l) e = absurd (omega arith)

pub begins : (ts : List Token) (r : Progress) → r.stack ≡ [] → r.first_sign ≡ 0 → r.after_operand ≡ false → Corresponds 0 r start
begins ts r a b c = record {
  ordered = subst (λ s. IsOrdered s 0) (sym a) refl;
  opened = omega arith;
  after = c;
  inside = subst (AreInside 0) (sym a) tt;
  first = omega arith;
  counted = subst (λ s. length s ≤ 0) (sym a) (omega arith);
}

pub whole : (names : ℕ → Option ℤ) (ts : List Token) (r : Progress) → r.stack ≡ [] → r.first_sign ≡ 0 → r.after_operand ≡ false → shape start (kinds ts) ≡ Ok tt → run_on names ts 0 r ts ≡ value_of names (kinds ts)
whole names ts r a b c h =
    let is : seen ts 0 r ≡ wants r.value [] [] = (λ i. record { stack = waiting_all ts (a i); signs = (ap (λ k. kinds (slice_range ts k 0)) b ∙ none-between ts 0) i; value = r.value; after = c i }) in
    sym (linked names ts ts 0 r start refl (begins ts r a b c) h) ∙ ap (λ s. run names s (kinds ts)) is ∙ evaluates names (kinds ts) r.value h
