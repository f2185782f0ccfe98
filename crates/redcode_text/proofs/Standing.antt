-- The state of the evaluation corresponds to the state of the shape.
use Rattle.std.proofs.Common.{◌≡◌, ℕ, ◌+◌, ◌-◌, ◌*◌, ◌<◌, ◌≤◌, List, [], ◌∷◌, length, slice_range, Bool, true, false, cond, eqb, leb, ℤ, Option, Result, Ok, Err, refl, ap, sym, subst, ◌∙◌, arith, ◌⊎◌, ⊎_elim}
use Rattle.std.proofs.lemmas.Bool.{eqb-false, leb-false, cases_lt, le-leb, lt-leb}
use Rattle.redcode_text.specs.Results.{◌>>=◌}
use Rattle.redcode_text.specs.declared.token.Token.{Token}
use Rattle.redcode_text.specs.declared.token.TokenKind.{TokenKind}
use Rattle.redcode_text.specs.declared.token.TokenKind.TheVariants.{Number, Name}
use Rattle.redcode_text.specs.declared.token.TokenKind.TheVariants as token
use Rattle.redcode_text.specs.declared.token.Sign.{Sign}
use Rattle.redcode_text.specs.declared.token.Sign.TheVariants.{Plus, Minus, Bang, OpenParen, CloseParen}
use Rattle.redcode_text.specs.declared.fault.ExprFault.{ExprFault}
use Rattle.redcode_text.specs.declared.fault.ExprFault.TheVariants.{Syntax, Depth}
use Rattle.redcode_text.specs.declared.expression.evaluation.Pending.{Pending}
use Rattle.redcode_text.specs.declared.expression.evaluation.Pending.TheVariants.{Value, Open}
use Rattle.redcode_text.specs.declared.expression.shape.ShapeState.{ShapeState}
use Rattle.redcode_text.specs.Code.Progress.{Progress}
use Rattle.redcode_text.specs.Expression.{precedence, binary, kinds, known, next_state, before_sign, after_sign}
use Rattle.redcode_text.specs.Code.Climbing.{StaysAt, signed, AreInside}
use Rattle.redcode_text.specs.Code.Positions.{reduced_on, popped, taken, opened_on, before_on, after_on, advance, IsOrdered, Corresponds}
use Rattle.redcode_text.proofs.Trees.{precedence-≤5}

pub bind-ok : {A B : Type 0} (r : Result A ExprFault) (f : A → Result B ExprFault) (y : B) → (r >>= f) ≡ Ok y → (x : A) × (r ≡ Ok x) × (f x ≡ Ok y)
bind-ok (Ok x) f y h = (x, refl, h)
bind-ok (Err e) f y h = cc

abbrev pub ok : {A : Type 0} → A → Result A ExprFault
ok x = Ok x

ok-same : {A : Type 0} (x y : A) → ok x ≡ ok y → x ≡ y
ok-same x y h = cc

guarded : {A : Type 0} (b : Bool) (e : ExprFault) (x y : A) → cond b (Err e) (Ok x) ≡ Ok y → (b ≡ false) × (x ≡ y)
guarded true e x y h = cc
guarded false e x y h = (refl, ok-same x y h)

-- The rest of a stack is ordered and no longer than before.
pub record Rest (m k n : ℕ) (old new : List Pending) : Type 0 where
  pub ordered : IsOrdered new n
  pub below : StaysAt k new
  pub inside : AreInside m new
  pub shorter : length new ≤ length old

pub rest_of : (m k n : ℕ) (stack : List Pending) (v w : ℤ) (new : List Pending) → reduced_on k stack v ≡ Ok (w, new) → IsOrdered stack n → AreInside m stack → Rest m k n stack new
rest_of m k n [] v w new e o i =
    subst (Rest m k n []) (ap (λ p. p.1) (ok-same (v, []) (w, new) e)) (record { ordered = o; below = tt; inside = i; shorter = omega arith })
rest_of m k n (Open a b ∷ stack) v w new e o i =
    subst (Rest m k n (Open a b ∷ stack)) (ap (λ p. p.1) (ok-same (v, Open a b ∷ stack) (w, new) e)) (record { ordered = o; below = tt; inside = i; shorter = omega arith })
rest_of m k n (Value u s ∷ stack) v w new e o i =
    ⊎_elim
    (λ far.
    let stays = ap (λ c. cond c (binary s u v >>= λ w. reduced_on k stack w) (Ok (v, Value u s ∷ stack))) (sym (lt-leb (precedence s) k far)) ∙ e in
    subst (Rest m k n (Value u s ∷ stack)) (ap (λ p. p.1) (ok-same (v, Value u s ∷ stack) (w, new) stays)) (record { ordered = o; below = far; inside = i; shorter = omega arith }))
    (λ near.
    let goes = ap (λ c. cond c (binary s u v >>= λ w. reduced_on k stack w) (Ok (v, Value u s ∷ stack))) (sym (le-leb (precedence s) k near)) ∙ e in
    let x = bind-ok (binary s u v) (λ w. reduced_on k stack w) (w, new) goes in
    let r = rest_of m k n stack x.0 w new x.2 o.2 i in
    record { ordered = r.ordered; below = r.below; inside = r.inside; shorter = omega (arith, r.shorter) })
    (cases_lt k (precedence s))

below-zero : (stack : List Pending) (n : ℕ) → IsOrdered stack n → StaysAt 0 stack
below-zero [] n o = tt
below-zero (Value u s ∷ stack) n o = o.0
below-zero (Open a b ∷ stack) n o = tt

height : (k n : ℕ) (stack : List Pending) → k ≤ 5 → StaysAt k stack → IsOrdered stack n → length stack + k ≤ 6 * n + 5
height k n [] h b o = omega arith
height k n (Value u s ∷ stack) h b o = omega (arith, height (precedence s) n stack (precedence-≤5 s) o.1 o.2)
height k n (Open a c ∷ stack) h b o = omega (arith, height 0 (n - 1) stack (omega arith) (below-zero stack (n - 1) o.1) o.1)

-- The stack has room for one more entry, whether it is large enough for any expression or for the number of tokens.
pub room : (n count places : ℕ) (r : Progress) (p : ShapeState) → Corresponds n r p → n < count → (390 ≤ places) ⊎ (count ≤ places)
    → length r.stack < places
room n count places r p s before fits =
    ⊎_elim
    (λ any. omega (arith, height 0 p.opened r.stack (omega arith) (below-zero r.stack p.opened s.ordered) s.ordered, s.opened, any))
    (λ few. omega (arith, s.counted, before, few))
    fits

inside-more : (n : ℕ) (stack : List Pending) → AreInside n stack → AreInside (n + 1) stack
inside-more n [] i = tt
inside-more n (Value u s ∷ stack) i = inside-more n stack i
inside-more n (Open a b ∷ stack) i = (i.0, omega (arith, i.1), inside-more n stack i.2)

-- An operand keeps the correspondence.
operand-next : (ts : List Token) (n : ℕ) (r next : Progress) (p q : ShapeState) (v : ℤ) → Corresponds n r p → cond p.after_operand (Err Syntax) (Ok (record { opened = p.opened; signs = 0; after_operand = true })) ≡ Ok q → taken ts n r v ≡ Ok next → Corresponds (n + 1) next q
operand-next ts n r next p q v s g h =
    let x = bind-ok (signed (kinds (slice_range ts r.first_sign n)) v) (λ w. Ok (record { stack = r.stack; first_sign = n + 1; value = w; after_operand = true })) next h in
    let q_is = (guarded p.after_operand Syntax (record { opened = p.opened; signs = 0; after_operand = true }) q g).1 in
    subst (Corresponds (n + 1) next) q_is
    (subst (λ (y : Progress). Corresponds (n + 1) y (record { opened = p.opened; signs = 0; after_operand = true })) (ok-same _ next x.2)
    (record { ordered = s.ordered; opened = s.opened; after = refl; inside = inside-more n r.stack s.inside; first = omega arith; counted = omega (arith, s.counted) }))

popped-next : (ts : List Token) (n m : ℕ) (v : ℤ) (stack : List Pending) (next : Progress) → 0 < m → m ≤ 64 → IsOrdered stack m → AreInside n stack → length stack ≤ n → popped ts n v stack ≡ Ok next → Corresponds (n + 1) next (record { opened = m - 1; signs = 0; after_operand = true })
popped-next ts n m v [] next pos le o i c h = cc
popped-next ts n m v (Value u x ∷ stack) next pos le o i c h = cc
popped-next ts n m v (Open a b ∷ stack) next pos le o i c h =
    let x = bind-ok (signed (kinds (slice_range ts a b)) v) (λ w. Ok (record { stack = stack; first_sign = n + 1; value = w; after_operand = true })) next h in
    subst (λ (y : Progress). Corresponds (n + 1) y (record { opened = m - 1; signs = 0; after_operand = true })) (ok-same _ next x.2)
    (record { ordered = o.1; opened = omega arith; after = refl; inside = inside-more n stack i.2; first = omega arith; counted = omega (arith, c) })

after-next : (ts : List Token) (n : ℕ) (r next : Progress) (p q : ShapeState) (s : Sign) → Corresponds n r p → after_sign p s ≡ Ok q → after_on ts n r s ≡ Ok next → Corresponds (n + 1) next q
after-next ts n r next p q CloseParen st g h =
    let b = guarded (eqb p.opened 0) Syntax (record { opened = p.opened - 1; signs = 0; after_operand = true }) q g in
    let nonzero : p.opened ≡ 0 → ⊥ = eqb-false p.opened 0 b.0 in
    let x = bind-ok (reduced_on 5 r.stack r.value) (λ x. popped ts n x.0 x.1) next h in
    let rest = rest_of n 5 p.opened r.stack r.value x.0.0 x.0.1 x.1 st.ordered st.inside in
    subst (Corresponds (n + 1) next) b.1 (popped-next ts n p.opened x.0.0 x.0.1 next (omega arith) st.opened rest.ordered rest.inside (omega (arith, rest.shorter, st.counted)) x.2)
after-next ts n r next p q s st g h =
    let b = guarded (eqb (precedence s) 0) Syntax (record { opened = p.opened; signs = 0; after_operand = false }) q g in
    let nonzero : precedence s ≡ 0 → ⊥ = eqb-false (precedence s) 0 b.0 in
    let x = bind-ok (reduced_on (precedence s) r.stack r.value) (λ x. Ok (record { stack = Value x.0 s ∷ x.1; first_sign = n + 1; value = x.0; after_operand = false })) next h in
    let rest = rest_of n (precedence s) p.opened r.stack r.value x.0.0 x.0.1 x.1 st.ordered st.inside in
    subst (Corresponds (n + 1) next) b.1
    (subst (λ (y : Progress). Corresponds (n + 1) y (record { opened = p.opened; signs = 0; after_operand = false })) (ok-same _ next x.2)
    (record { ordered = (omega arith, rest.below, rest.ordered); opened = st.opened; after = refl; inside = inside-more n x.0.1 rest.inside; first = omega arith; counted = omega (arith, rest.shorter, st.counted) }))

sign-next : (n : ℕ) (r : Progress) (p q : ShapeState) → Corresponds n r p → r.after_operand ≡ false → cond (leb 64 p.signs) (Err Depth) (Ok (record { opened = p.opened; signs = p.signs + 1; after_operand = false })) ≡ Ok q → Corresponds (n + 1) r q
sign-next n r p q s f g =
    subst (Corresponds (n + 1) r) (guarded (leb 64 p.signs) Depth (record { opened = p.opened; signs = p.signs + 1; after_operand = false }) q g).1
    (record { ordered = s.ordered; opened = s.opened; after = f; inside = inside-more n r.stack s.inside; first = omega (arith, s.first); counted = omega (arith, s.counted) })

before-next : (n : ℕ) (r : Progress) (p q : ShapeState) (s : Sign) → Corresponds n r p → r.after_operand ≡ false → before_sign p s ≡ Ok q → Corresponds (n + 1) (before_on n r s) q
before-next n r p q OpenParen s f g =
    let b = guarded (leb 64 p.opened) Depth (record { opened = p.opened + 1; signs = 0; after_operand = false }) q g in
    let less = leb-false 64 p.opened b.0 in
    let back : p.opened + 1 - 1 ≡ p.opened = omega arith in
    subst (Corresponds (n + 1) (opened_on n r)) b.1
    (record { ordered = (omega arith, subst (IsOrdered r.stack) (sym back) s.ordered); opened = omega (arith, less); after = refl; inside = (s.first, omega arith, inside-more n r.stack s.inside); first = omega arith; counted = omega (arith, s.counted) })
before-next n r p q Plus s f g = sign-next n r p q s f g
before-next n r p q Minus s f g = sign-next n r p q s f g
before-next n r p q Bang s f g = sign-next n r p q s f g
before-next n r p q _ s f g = cc

mark-next : (ts : List Token) (n : ℕ) (r next : Progress) (p q : ShapeState) (s : Sign) (a b : Bool) → r.after_operand ≡ a → a ≡ b → Corresponds n r p → cond b (after_sign p s) (before_sign p s) ≡ Ok q → cond a (after_on ts n r s) (Ok (before_on n r s)) ≡ Ok next → Corresponds (n + 1) next q
mark-next ts n r next p q s true true e f st g h = after-next ts n r next p q s st g h
mark-next ts n r next p q s false false e f st g h = subst (λ (y : Progress). Corresponds (n + 1) y q) (ok-same _ next h) (before-next n r p q s st e g)
mark-next ts n r next p q s true false e f st g h = cc
mark-next ts n r next p q s false true e f st g h = cc

-- One more token keeps the correspondence.
pub stands-next : (names : ℕ → Option ℤ) (ts : List Token) (n : ℕ) (r next : Progress) (p q : ShapeState) (x : TokenKind) → Corresponds n r p → next_state p x ≡ Ok q → advance names ts n r x ≡ Ok next → Corresponds (n + 1) next q
stands-next names ts n r next p q (Number v) s g h = operand-next ts n r next p q v s g h
stands-next names ts n r next p q (Name v) s g h =
    let x = bind-ok (known (names v)) (λ v. taken ts n r v) next h in
    operand-next ts n r next p q x.0 s g x.2
stands-next names ts n r next p q (token.Sign m) s g h = mark-next ts n r next p q m r.after_operand p.after_operand refl s.after s g h
