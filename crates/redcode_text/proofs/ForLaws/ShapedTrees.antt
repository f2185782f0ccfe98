-- Tokens with a valid shape spell a tree, and the error of a shape is the error of the first misplaced token. Each
-- state of the shape can be continued to an end (`begun`). So the tokens before the first error can be continued to an
-- expression, but not together with the token that has the error.
use Rattle.std.proofs.Common.{◌≡◌, ◌∙◌, refl, ap, sym, subst, ℕ, zero, suc, ◌+◌, ◌-◌, ◌<◌, pos, List, [], ◌∷◌, ◌++◌, length, append-nil, append_assoc, add-one, Bool, true, false, ◌&&◌, ◌==◌, cond, eqb, leb, ◌⊎◌, inl, inr, ⊎_elim, Result, Ok, Err, arith}
use Rattle.std.proofs.lemmas.Bool.Decides.{nat_tests}
use Rattle.redcode_text.specs.Results.{◌>>=◌}
use Rattle.redcode_text.specs.declared.token.TokenKind.{TokenKind}
use Rattle.redcode_text.specs.declared.token.TokenKind.TheVariants.{Number, Name}
use Rattle.redcode_text.specs.declared.token.TokenKind.TheVariants as token
use Rattle.redcode_text.specs.declared.token.Sign.{Sign}
use Rattle.redcode_text.specs.declared.token.Sign.TheVariants.{Plus, Minus, Bang, OpenParen, CloseParen}
use Rattle.redcode_text.specs.declared.fault.ExprFault.{ExprFault}
use Rattle.redcode_text.specs.declared.fault.ExprFault.TheVariants.{Syntax, Depth}
use Rattle.redcode_text.specs.declared.expression.shape.ShapeState.{ShapeState}
use Rattle.redcode_text.specs.Expression.{precedence, Tree, Numeral, Named, Parens, Unary, Binary, Missing, next_state, shape, start, tree_within}
use Rattle.redcode_text.specs.Laws.{Misplaced, leads_operand}
use Rattle.redcode_text.specs.Trees.{spelling, is_prefix, IsLevelled, IsWithin}
use Rattle.redcode_text.proofs.Trees.{rank-≤5}
use Rattle.redcode_text.proofs.Shapes.{shaped}
use Rattle.redcode_text.proofs.Splits.{tree-spelled}

abbrev at : ℕ → ℕ → Bool → ShapeState
at opened signs after = record { opened = opened; signs = signs; after_operand = after }

abbrev IsOk : Result (Unit {0}) ExprFault → Type 0
IsOk r = r ≡ Ok tt

-- ---- A tree within its limits

below : (n : ℕ) → n < 64 → leb 64 n ≡ false
below n h = grind (arith, nat_tests, h)

guard-ok : (b : Bool) (e : ExprFault) (q : ShapeState) (f : ShapeState → Result (Unit {0}) ExprFault) → IsOk (cond b (Err e) (Ok q) >>= f) → (b ≡ false) × IsOk (f q)
guard-ok true e q f h = cc
guard-ok false e q f h = (refl, h)

passed : (n : ℕ) → leb 64 n ≡ false → n < 64
passed n h = grind (arith, nat_tests, h)

-- The check of a shape accepts a binary operator after an operand.
operator : (s : Sign) (o n : ℕ) (rest : List TokenKind) → 0 < precedence s → shape (at o n true) (token.Sign s ∷ rest) ≡ shape (at o 0 false) rest
operator CloseParen o n rest h = absurd (omega (arith, h))
operator s o n rest h =
    let some : eqb (precedence s) 0 ≡ false = grind (arith, nat_tests, h) in
    ap (λ b. cond b (Err Syntax) (Ok (at o 0 false)) >>= λ q. shape q rest) some

prefix : (s : Sign) (o n : ℕ) (rest : List TokenKind) → is_prefix s ≡ true → n < 64 → shape (at o n false) (token.Sign s ∷ rest) ≡ shape (at o (n + 1) false) rest
prefix Plus o n rest is few = ap (λ b. cond b (Err Depth) (Ok (at o (n + 1) false)) >>= λ q. shape q rest) (below n few)
prefix Minus o n rest is few = ap (λ b. cond b (Err Depth) (Ok (at o (n + 1) false)) >>= λ q. shape q rest) (below n few)
prefix Bang o n rest is few = ap (λ b. cond b (Err Depth) (Ok (at o (n + 1) false)) >>= λ q. shape q rest) (below n few)
prefix _ o n rest is few = cc

few-signs : (s : Sign) (o n : ℕ) (rest : List TokenKind) → is_prefix s ≡ true → IsOk (shape (at o n false) (token.Sign s ∷ rest)) → n < 64
few-signs Plus o n rest is h = passed n (guard-ok (leb 64 n) Depth (at o (n + 1) false) (λ q. shape q rest) h).0
few-signs Minus o n rest is h = passed n (guard-ok (leb 64 n) Depth (at o (n + 1) false) (λ q. shape q rest) h).0
few-signs Bang o n rest is h = passed n (guard-ok (leb 64 n) Depth (at o (n + 1) false) (λ q. shape q rest) h).0
few-signs _ o n rest is h = cc

opening : (o n : ℕ) (rest : List TokenKind) → o < 64 → shape (at o n false) (token.Sign OpenParen ∷ rest) ≡ shape (at (o + 1) 0 false) rest
opening o n rest few = ap (λ b. cond b (Err Depth) (Ok (at (o + 1) 0 false)) >>= λ q. shape q rest) (below o few)

closing : (o n : ℕ) (rest : List TokenKind) → shape (at (o + 1) n true) (token.Sign CloseParen ∷ rest) ≡ shape (at o 0 true) rest
closing o n rest =
    let some : eqb (o + 1) 0 ≡ false = grind (arith, nat_tests) in
    let back : (o + 1) - 1 ≡ o = omega arith in
    ap (λ b. cond b (Err Syntax) (Ok (at ((o + 1) - 1) 0 true)) >>= λ q. shape q rest) some ∙ ap (λ k. shape (at k 0 true) rest) back

-- The check of a shape accepts a tree within its limits like one operand.
fits : (t : Tree) (o n : ℕ) (rest : List TokenKind) → IsLevelled t → IsWithin o n t → shape (at o n false) (spelling t ++ rest) ≡ shape (at o 0 true) rest
fits (Numeral v) o n rest l w = refl
fits (Named v) o n rest l w = refl
fits (Parens t) o n rest l w =
    ap (λ ks. shape (at o n false) (token.Sign OpenParen ∷ ks)) (append_assoc (spelling t) (token.Sign CloseParen ∷ []) rest)
    ∙ opening o n (spelling t ++ token.Sign CloseParen ∷ rest) w.0
    ∙ fits t (o + 1) 0 (token.Sign CloseParen ∷ rest) l w.1
    ∙ closing o 0 rest
fits (Unary s t) o n rest l w = prefix s o n (spelling t ++ rest) l.0 w.0 ∙ fits t o (n + 1) rest l.2 w.1
fits (Binary a s b) o n rest l w =
    ap (shape (at o n false)) (append_assoc (spelling a) (token.Sign s ∷ spelling b) rest)
    ∙ fits a o n (token.Sign s ∷ (spelling b ++ rest)) l.3 w.0
    ∙ operator s o 0 (spelling b ++ rest) l.0
    ∙ fits b o 0 rest l.4 w.1
fits Missing o n rest l w = absurd l

-- A tree whose shape is accepted is within its limits.
within : (t : Tree) (o n : ℕ) (rest : List TokenKind) → IsLevelled t → IsOk (shape (at o n false) (spelling t ++ rest)) → IsWithin o n t
within (Numeral v) o n rest l h = tt
within (Named v) o n rest l h = tt
within (Parens t) o n rest l h =
    let g = guard-ok (leb 64 o) Depth (at (o + 1) 0 false) (λ q. shape q ((spelling t ++ token.Sign CloseParen ∷ []) ++ rest)) h in
    (passed o g.0, within t (o + 1) 0 (token.Sign CloseParen ∷ rest) l (ap (shape (at (o + 1) 0 false)) (sym (append_assoc (spelling t) (token.Sign CloseParen ∷ []) rest)) ∙ g.1))
within (Unary s t) o n rest l h =
    let few = few-signs s o n (spelling t ++ rest) l.0 h in
    (few, within t o (n + 1) rest l.2 (sym (prefix s o n (spelling t ++ rest) l.0 few) ∙ h))
within (Binary a s b) o n rest l h =
    let whole = sym (ap (shape (at o n false)) (append_assoc (spelling a) (token.Sign s ∷ spelling b) rest)) ∙ h in
    let left = within a o n (token.Sign s ∷ (spelling b ++ rest)) l.3 whole in
    (left, within b o 0 rest l.4 (sym (operator s o 0 (spelling b ++ rest) l.0) ∙ sym (fits a o n (token.Sign s ∷ (spelling b ++ rest)) l.3 left) ∙ whole))
within Missing o n rest l h = tt

pub has-shape : (t : Tree) → IsLevelled t → IsWithin 0 0 t → shape start (spelling t) ≡ Ok tt
has-shape t l w = ap (shape start) (sym (append-nil (spelling t))) ∙ fits t 0 0 [] l w

pub own-tree : (t : Tree) → IsLevelled t → tree_within (length (spelling t)) 5 (spelling t) ≡ t
own-tree t l = tree-spelled t (length (spelling t)) 5 l (omega arith) (rank-≤5 t)

pub spells : (xs : List TokenKind) → shape start xs ≡ Ok tt → (spelling (tree_within (length xs) 5 xs) ≡ xs) × IsLevelled (tree_within (length xs) 5 xs) × IsWithin 0 0 (tree_within (length xs) 5 xs)
spells xs h =
    let t = shaped xs h in
    let is : tree_within (length xs) 5 xs ≡ t.tree = subst (λ l. tree_within (length l) 5 l ≡ t.tree) t.spelled (own-tree t.tree t.levelled) in
    let fine = ap (shape start) (append-nil (spelling t.tree) ∙ t.spelled) ∙ h in
    (ap spelling is ∙ t.spelled, subst IsLevelled (sym is) t.levelled, subst (IsWithin 0 0) (sym is) (within t.tree 0 0 [] t.levelled fine))

-- ---- The first error

-- From the state `p` on, the tokens can be continued to an end.
abbrev Begun : ShapeState → List TokenKind → Type 0
Begun p xs = (rest : List TokenKind) × IsOk (shape p (xs ++ rest))

closes : ℕ → List TokenKind
closes zero = []
closes (suc n) = token.Sign CloseParen ∷ closes n

closed : (o n : ℕ) → IsOk (shape (at o n true) (closes o))
unfolding closes
closed zero n = refl
closed (suc o) n = ap (λ k. shape (at k n true) (token.Sign CloseParen ∷ closes o)) (sym (add-one o)) ∙ closing o n (closes o) ∙ closed o 0

-- Every state can be continued to an end.
begun : (p : ShapeState) → Begun p []
begun p = go p.opened p.signs p.after_operand
  where
    go : (o n : ℕ) (after : Bool) → (rest : List TokenKind) × IsOk (shape (at o n after) rest)
    go o n true = (closes o, closed o n)
    go o n false = (Number (pos 0) ∷ closes o, closed o 0)

-- The error of a token, `Depth` or `Syntax`, and the reason for it.
abbrev IsFaultOfToken : ShapeState → TokenKind → ExprFault → Type 0
IsFaultOfToken p x f = ((f ≡ Depth) × (leads_operand x ≡ true) × Begun p (Number (pos 0) ∷ [])) ⊎ ((f ≡ Syntax) × (leads_operand x ≡ true → Begun p (Number (pos 0) ∷ []) → ⊥))

guard-err : (b : Bool) (e f : ExprFault) (q : ShapeState) → cond b (Err e) (Ok q) ≡ Err f → f ≡ e
guard-err true e f q h = cc
guard-err false e f q h = cc

deep : (o n : ℕ) (x : TokenKind) (f : ExprFault) → f ≡ Depth → leads_operand x ≡ true → IsFaultOfToken (at o n false) x f
deep o n x f is leads = inl (is, leads, (closes o, closed o 0))

-- No operand may follow an operand.
no-operand : (o n : ℕ) (x : TokenKind) (f : ExprFault) → f ≡ Syntax → IsFaultOfToken (at o n true) x f
no-operand o n x f is = inr (is, λ leads b. cc)

wrong : (o n : ℕ) (x : TokenKind) (f : ExprFault) → f ≡ Syntax → leads_operand x ≡ false → IsFaultOfToken (at o n false) x f
wrong o n x f is other = inr (is, λ leads b. cc)

is_fault_of_token : (o n : ℕ) (after : Bool) (x : TokenKind) (f : ExprFault) → next_state (at o n after) x ≡ Err f → IsFaultOfToken (at o n after) x f
is_fault_of_token o n true (Number v) f h = no-operand o n (Number v) f cc
is_fault_of_token o n true (Name v) f h = no-operand o n (Name v) f cc
is_fault_of_token o n true (token.Sign CloseParen) f h = no-operand o n (token.Sign CloseParen) f (guard-err (eqb o 0) Syntax f (at (o - 1) 0 true) h)
is_fault_of_token o n true (token.Sign s) f h = no-operand o n (token.Sign s) f (guard-err (eqb (precedence s) 0) Syntax f (at o 0 false) h)
is_fault_of_token o n false (Number v) f h = cc
is_fault_of_token o n false (Name v) f h = cc
is_fault_of_token o n false (token.Sign Plus) f h = deep o n (token.Sign Plus) f (guard-err (leb 64 n) Depth f (at o (n + 1) false) h) refl
is_fault_of_token o n false (token.Sign Minus) f h = deep o n (token.Sign Minus) f (guard-err (leb 64 n) Depth f (at o (n + 1) false) h) refl
is_fault_of_token o n false (token.Sign Bang) f h = deep o n (token.Sign Bang) f (guard-err (leb 64 n) Depth f (at o (n + 1) false) h) refl
is_fault_of_token o n false (token.Sign OpenParen) f h = deep o n (token.Sign OpenParen) f (guard-err (leb 64 o) Depth f (at (o + 1) 0 false) h) refl
is_fault_of_token o n false (token.Sign s) f h = wrong o n (token.Sign s) f (cc) refl

-- A misplaced token, from the state `p` on.
record Placed (p : ShapeState) (xs : List TokenKind) (f : ExprFault) : Type 0 where
  before : List TokenKind
  token : TokenKind
  behind : List TokenKind
  parts : xs ≡ before ++ token ∷ behind
  start : Begun p before
  refused : Begun p (before ++ token ∷ []) → ⊥
  kind : ((f ≡ Depth) × (leads_operand token ≡ true) × Begun p (before ++ Number (pos 0) ∷ [])) ⊎ ((f ≡ Syntax) × (leads_operand token ≡ true → Begun p (before ++ Number (pos 0) ∷ []) → ⊥))

module _ (p q : ShapeState) (x : TokenKind) (f : ExprFault) (step : next_state p x ≡ Ok q) where
  passes : (xs : List TokenKind) → shape p (x ∷ xs) ≡ shape q xs
  passes xs = ap (λ r. r >>= λ q. shape q xs) step

  back : (xs : List TokenKind) → Begun q xs → Begun p (x ∷ xs)
  back xs b = (b.0, passes (xs ++ b.0) ∙ b.1)

  on : (xs : List TokenKind) → Begun p (x ∷ xs) → Begun q xs
  on xs b = (b.0, sym (passes (xs ++ b.0)) ∙ b.1)

  later : (xs : List TokenKind) → (Begun q xs × (f ≡ Syntax)) ⊎ Placed q xs f → (Begun p (x ∷ xs) × (f ≡ Syntax)) ⊎ Placed p (x ∷ xs) f
  later xs (inl b) = inl (back xs b.0, b.1)
  later xs (inr m) = inr (record {
    before = x ∷ m.before;
    token = m.token;
    behind = m.behind;
    parts = ap (λ l. x ∷ l) m.parts;
    start = back m.before m.start;
    refused = λ b. m.refused (on (m.before ++ m.token ∷ []) b);
    kind = ⊎_elim (λ d. inl (d.0, d.1, back (m.before ++ Number (pos 0) ∷ []) d.2)) (λ w. inr (w.0, λ leads b. w.1 leads (on (m.before ++ Number (pos 0) ∷ []) b))) m.kind;
  })

abbrev ended : Bool → Result (Unit {0}) ExprFault
ended b = cond b (Ok tt) (Err Syntax)

ends-err : (b : Bool) (f : ExprFault) → ended b ≡ Err f → f ≡ Syntax
ends-err true f h = cc
ends-err false f h = cc

first : (p : ShapeState) (xs : List TokenKind) (f : ExprFault) → shape p xs ≡ Err f → (Begun p xs × (f ≡ Syntax)) ⊎ Placed p xs f
first p [] f h = inl (begun p, ends-err (p.after_operand && (p.opened == 0)) f h)
first p (x ∷ xs) f h = go (next_state p x) refl h (λ q. first q xs f)
  where
    go : (r : Result ShapeState ExprFault) → next_state p x ≡ r → (r >>= λ q. shape q xs) ≡ Err f
        → ((q : ShapeState) → shape q xs ≡ Err f → (Begun q xs × (f ≡ Syntax)) ⊎ Placed q xs f) → (Begun p (x ∷ xs) × (f ≡ Syntax)) ⊎ Placed p (x ∷ xs) f
    go (Ok q) e h on = later p q x f e xs (on q h)
    go (Err g) e h on =
        let is : g ≡ f = cc in
        inr (record {
          before = [];
          token = x;
          behind = xs;
          parts = refl;
          start = begun p;
          refused = λ b. let no : shape p (x ∷ b.0) ≡ Err g = ap (λ r. r >>= λ q. shape q b.0) e in cc;
          kind = is_fault_of_token p.opened p.signs p.after_operand x f (e ∙ ap Err is);
        })

pub misshapen : (xs : List TokenKind) (f : ExprFault) → shape start xs ≡ Err f → (((rest : List TokenKind) × (shape start (xs ++ rest) ≡ Ok tt)) × (f ≡ Syntax)) ⊎ Misplaced xs f
misshapen xs f h =
    ⊎_elim inl
    (λ m. inr (record { before = m.before; token = m.token; behind = m.behind; parts = m.parts; begun = m.start; refused = m.refused; kind = m.kind }))
    (first start xs f h)
