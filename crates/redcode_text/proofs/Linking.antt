-- The evaluations on the code's state and on the state with lists of unary operators have the same result.
use Rattle.std.proofs.Common.{◌≡◌, ℕ, suc, ◌+◌, ◌-◌, ◌<◌, ◌≤◌, List, [], ◌∷◌, ◌++◌, length, drop, take, get_or, slice_range, Bool, true, false, cond, leb, ℤ, Option, Result, Ok, Err, refl, ap, sym, ◌∙◌, arith, add-one, take-suc, length-drop, get_or-drop}
use Rattle.std.proofs.lemmas.List.{map-append}
use Rattle.std.proofs.Math.Seq.{drop-cons}
use Rattle.redcode_text.specs.Results.{◌>>=◌}
use Rattle.redcode_text.specs.declared.token.Token.{Token}
use Rattle.redcode_text.specs.declared.token.TokenKind.{TokenKind}
use Rattle.redcode_text.specs.declared.token.TokenKind.TheVariants.{Number, Name}
use Rattle.redcode_text.specs.declared.token.TokenKind.TheVariants as token
use Rattle.redcode_text.specs.declared.token.Sign.{Sign}
use Rattle.redcode_text.specs.declared.token.Sign.TheVariants.{OpenParen, CloseParen}
use Rattle.redcode_text.specs.declared.fault.ExprFault.{ExprFault}
use Rattle.redcode_text.specs.declared.expression.evaluation.Pending.{Pending}
use Rattle.redcode_text.specs.declared.expression.evaluation.Pending.TheVariants.{Value, Open}
use Rattle.redcode_text.specs.Code.Progress.{Progress}
use Rattle.redcode_text.specs.Expression.{precedence, binary, kinds, known, shape, next_state}
use Rattle.redcode_text.specs.Code.Climbing.{Left, State, signed, reduced, placed, before_mark, after_mark, move, run, operand, waiting_all, seen}
use Rattle.redcode_text.specs.Code.Positions.{Corresponds, reduced_on, popped, taken, before_on, after_on, advance, run_on}
use Rattle.redcode_text.proofs.Climbs.{assoc}
use Rattle.redcode_text.proofs.Reducing.{none-between}
use Rattle.redcode_text.proofs.Standing.{stands-next, bind-ok, ok}
use Rattle.redcode_text.specs.declared.expression.shape.ShapeState.{ShapeState}

-- The state that a result of the code represents, or the error.
abbrev seen_next : List Token → ℕ → Result Progress ExprFault → Result State ExprFault
seen_next ts n r = r >>= λ q. Ok (seen ts n q)

reduced-seen : (ts : List Token) (k : ℕ) (stack : List Pending) (v : ℤ) → reduced k (waiting_all ts stack) v ≡ (reduced_on k stack v >>= λ p. Ok (p.0, waiting_all ts p.1))
reduced-seen ts k [] v = refl
reduced-seen ts k (Open a b ∷ stack) v = refl
reduced-seen ts k (Value u s ∷ stack) v = go (leb (precedence s) k) (λ w. reduced-seen ts k stack w)
  where
    go : (c : Bool) → ((w : ℤ) → reduced k (waiting_all ts stack) w ≡ (reduced_on k stack w >>= λ p. Ok (p.0, waiting_all ts p.1))) → cond c (binary s u v >>= λ w. reduced k (waiting_all ts stack) w) (Ok (v, Left u s ∷ waiting_all ts stack)) ≡ (cond c (binary s u v >>= λ w. reduced_on k stack w) (Ok (v, Value u s ∷ stack)) >>= λ p. Ok (p.0, waiting_all ts p.1))
    go true ih = (λ i. binary s u v >>= λ w. ih w i) ∙ sym (assoc (binary s u v) (λ w. reduced_on k stack w) (λ p. Ok (p.0, waiting_all ts p.1)))
    go false ih = refl

-- A state without unary operators before the token at the index `n`.
fresh : (ts : List Token) (n : ℕ) (stack : List Pending) (v : ℤ) (after : Bool) → record { stack = waiting_all ts stack; signs = []; value = v; after = after } ≡ seen ts n (record { stack = stack; first_sign = n; value = v; after_operand = after })
fresh ts n stack v after = ap (λ l. record { stack = waiting_all ts stack; signs = l; value = v; after = after }) (sym (none-between ts n))

taken-seen : (ts : List Token) (n : ℕ) (r : Progress) (v : ℤ) → operand (seen ts n r) v ≡ seen_next ts (n + 1) (taken ts n r v)
taken-seen ts n r v =
    (λ i. signed (kinds (slice_range ts r.first_sign n)) v >>= λ w. Ok (fresh ts (n + 1) r.stack w true i))
    ∙ sym (assoc (signed (kinds (slice_range ts r.first_sign n)) v) (λ w. Ok (record { stack = r.stack; first_sign = n + 1; value = w; after_operand = true })) (λ q. Ok (seen ts (n + 1) q)))

popped-seen : (ts : List Token) (n : ℕ) (v : ℤ) (stack : List Pending) → placed CloseParen v (waiting_all ts stack) ≡ seen_next ts (n + 1) (popped ts n v stack)
popped-seen ts n v [] = refl
popped-seen ts n v (Value u s ∷ stack) = refl
popped-seen ts n v (Open a b ∷ stack) =
    (λ i. signed (kinds (slice_range ts a b)) v >>= λ w. Ok (fresh ts (n + 1) stack w true i))
    ∙ sym (assoc (signed (kinds (slice_range ts a b)) v) (λ w. Ok (record { stack = stack; first_sign = n + 1; value = w; after_operand = true })) (λ q. Ok (seen ts (n + 1) q)))

after-by : (ts : List Token) (n k : ℕ) (s : Sign) (r : Progress) (f : ℤ → List Pending → Result Progress ExprFault) → ((v : ℤ) (stack : List Pending) → placed s v (waiting_all ts stack) ≡ seen_next ts (n + 1) (f v stack))
    → (reduced k (waiting_all ts r.stack) r.value >>= λ x. placed s x.0 x.1) ≡ seen_next ts (n + 1) (reduced_on k r.stack r.value >>= λ x. f x.0 x.1)
after-by ts n k s r f same =
    ap (λ y. y >>= λ x. placed s x.0 x.1) (reduced-seen ts k r.stack r.value)
    ∙ assoc (reduced_on k r.stack r.value) (λ p. Ok (p.0, waiting_all ts p.1)) (λ x. placed s x.0 x.1)
    ∙ (λ i. reduced_on k r.stack r.value >>= λ p. same p.0 p.1 i)
    ∙ sym (assoc (reduced_on k r.stack r.value) (λ x. f x.0 x.1) (λ q. Ok (seen ts (n + 1) q)))

after-seen : (ts : List Token) (n : ℕ) (s : Sign) (r : Progress) → after_mark (seen ts n r) s ≡ seen_next ts (n + 1) (after_on ts n r s)
after-seen ts n CloseParen r = after-by ts n 5 CloseParen r (popped ts n) (popped-seen ts n)
after-seen ts n s r =
    after-by ts n (precedence s) s r (λ v stack. Ok (record { stack = Value v s ∷ stack; first_sign = n + 1; value = v; after_operand = false }))
    (λ v stack. ap (λ y. Ok y) (fresh ts (n + 1) (Value v s ∷ stack) v false))

-- The kinds of the tokens from `a` up to and including `n` are the kinds before `n`, followed by the kind at `n`.
signs-more : (ts : List Token) (a n : ℕ) (d : Token) → a ≤ n → n < length ts → kinds (slice_range ts a (n + 1)) ≡ kinds (slice_range ts a n) ++ (get_or ts n d).kind ∷ []
signs-more ts a n d le lt =
    let count : n + 1 - a ≡ suc (n - a) = omega arith in
    let there : a + (n - a) ≡ n = omega arith in
    ap (λ k. kinds (take k (drop a ts))) count
    ∙ ap kinds (take-suc (drop a ts) (n - a) d (omega (arith, length-drop a ts)))
    ∙ map-append (λ t. t.kind) (take (n - a) (drop a ts)) (get_or (drop a ts) (n - a) d ∷ [])
    ∙ ap (λ t. kinds (take (n - a) (drop a ts)) ++ t.kind ∷ []) (get_or-drop a ts (n - a) d ∙ ap (λ k. get_or ts k d) there)

-- A unary operator is added to the unary operators directly before it.
sign-seen : (ts : List Token) (n : ℕ) (s : Sign) (r : Progress) (d : Token) → r.first_sign ≤ n → n < length ts → (get_or ts n d).kind ≡ token.Sign s → r.after_operand ≡ false → ok (record { stack = waiting_all ts r.stack; signs = kinds (slice_range ts r.first_sign n) ++ token.Sign s ∷ []; value = r.value; after = false }) ≡ ok (seen ts (n + 1) r)
sign-seen ts n s r d le lt is f =
    (λ i. ok (record { stack = waiting_all ts r.stack; signs = sym (signs-more ts r.first_sign n d le lt ∙ ap (λ k. kinds (slice_range ts r.first_sign n) ++ k ∷ []) is) i; value = r.value; after = sym f i }))

before-seen : (ts : List Token) (n : ℕ) (s : Sign) (r : Progress) (d : Token) → r.first_sign ≤ n → n < length ts → (get_or ts n d).kind ≡ token.Sign s → r.after_operand ≡ false → before_mark (seen ts n r) s ≡ ok (seen ts (n + 1) (before_on n r s))
before-seen ts n OpenParen r d le lt is f = ap (λ y. ok y) (fresh ts (n + 1) (Open r.first_sign n ∷ r.stack) r.value false)
before-seen ts n s r d le lt is f = sign-seen ts n s r d le lt is f

mark-seen : (ts : List Token) (n : ℕ) (s : Sign) (r : Progress) (d : Token) (a : Bool) → r.after_operand ≡ a → r.first_sign ≤ n → n < length ts → (get_or ts n d).kind ≡ token.Sign s
    → cond a (after_mark (seen ts n r) s) (before_mark (seen ts n r) s) ≡ seen_next ts (n + 1) (cond a (after_on ts n r s) (Ok (before_on n r s)))
mark-seen ts n s r d true e le lt is = after-seen ts n s r
mark-seen ts n s r d false e le lt is = before-seen ts n s r d le lt is e

advance-seen : (names : ℕ → Option ℤ) (ts : List Token) (n : ℕ) (r : Progress) (d : Token) (x : TokenKind) → r.first_sign ≤ n → n < length ts → (get_or ts n d).kind ≡ x → move names (seen ts n r) x ≡ seen_next ts (n + 1) (advance names ts n r x)
advance-seen names ts n r d (Number v) le lt is = taken-seen ts n r v
advance-seen names ts n r d (Name v) le lt is =
    (λ i. known (names v) >>= λ v. taken-seen ts n r v i)
    ∙ sym (assoc (known (names v)) (λ v. taken ts n r v) (λ q. Ok (seen ts (n + 1) q)))
advance-seen names ts n r d (token.Sign s) le lt is = mark-seen ts n s r d r.after_operand refl le lt is

bind-along : {A B : Type 0} (r : Result A ExprFault) (f g : A → Result B ExprFault) → ((x : A) → r ≡ Ok x → f x ≡ g x) → (r >>= f) ≡ (r >>= g)
bind-along (Ok x) f g h = h x refl
bind-along (Err e) f g h = refl

-- Both evaluations have the same result from the state `r` on, to which the state `p` of the shape corresponds.
pub linked : (names : ℕ → Option ℤ) (ts rest : List Token) (n : ℕ) (r : Progress) (p : ShapeState) → drop n ts ≡ rest → Corresponds n r p → shape p (kinds rest) ≡ Ok tt → run names (seen ts n r) (kinds rest) ≡ run_on names ts n r rest
linked names ts [] n r p e st h =
    ap (λ y. y >>= λ x. Ok x.0) (reduced-seen ts 5 r.stack r.value)
    ∙ assoc (reduced_on 5 r.stack r.value) (λ p. Ok (p.0, waiting_all ts p.1)) (λ x. Ok x.0)
linked names ts (t ∷ rest) n r p e st h =
    let lt : n < length ts = omega (arith, length-drop n ts, ap length e) in
    let parts : get_or ts n t ∷ drop (suc n) ts ≡ t ∷ rest = sym (drop-cons ts n t lt) ∙ e in
    let here : get_or ts n t ≡ t = cc in
    let after : drop (suc n) ts ≡ rest = cc in
    let after' : drop (n + 1) ts ≡ rest = rw add-one after in
    let q = bind-ok (next_state p t.kind) (λ q. shape q (kinds rest)) tt h in
    ap (λ y. y >>= λ s. run names s (kinds rest)) (advance-seen names ts n r t t.kind st.first lt (ap (λ t. t.kind) here))
    ∙ assoc (advance names ts n r t.kind) (λ q. Ok (seen ts (n + 1) q)) (λ s. run names s (kinds rest))
    ∙ bind-along (advance names ts n r t.kind) (λ q. run names (seen ts (n + 1) q) (kinds rest)) (λ q. run_on names ts (n + 1) q rest)
    (λ next is. linked names ts rest (n + 1) next q.0 after' (stands-next names ts n r next p q.0 t.kind st q.1 is) q.2)
