-- Tokens with a valid shape spell a tree.
use Rattle.std.proofs.Common.{◌≡◌, ℕ, ◌+◌, ◌-◌, ◌<◌, ◌≤◌, List, ◌∷◌, [], ◌++◌, Bool, true, false, arith, refl, ap, sym, subst, ◌∙◌, append_assoc, append-nil, cond, eqb, leb, ◌⊎◌, inl, inr, ⊎_elim, Result, Ok, Err}
use Rattle.std.proofs.lemmas.Bool.{eqb-false, cases_lt}
use borrow.Author.Tests.{eqb-true}
use Rattle.redcode_text.specs.Results.{◌>>=◌}
use Rattle.redcode_text.specs.declared.token.TokenKind.{TokenKind}
use Rattle.redcode_text.specs.declared.token.TokenKind.TheVariants.{Number, Name}
use Rattle.redcode_text.specs.declared.token.TokenKind.TheVariants as token
use Rattle.redcode_text.specs.declared.token.Sign.{Sign}
use Rattle.redcode_text.specs.declared.token.Sign.TheVariants.{Plus, Minus, Bang, OpenParen, CloseParen}
use Rattle.redcode_text.specs.declared.fault.ExprFault.{ExprFault}
use Rattle.redcode_text.specs.declared.fault.ExprFault.TheVariants.{Syntax, Depth}
use Rattle.redcode_text.specs.declared.expression.shape.ShapeState.{ShapeState}
use Rattle.redcode_text.specs.Expression.{precedence, Tree, Numeral, Named, Parens, Unary, Binary, shape, start, after_sign}
use Rattle.redcode_text.specs.Trees.{spelling, rank, is_prefix, IsLevelled}
use Rattle.redcode_text.proofs.Trees.{precedence-≤5, rank-≤5}

-- The tokens spell a tree.
pub record IsTree (xs : List TokenKind) : Type 0 where
  pub tree : Tree
  pub spelled : spelling tree ≡ xs
  pub levelled : IsLevelled tree

-- What surrounds a tree: a left operand with its operator, or a parenthesis with the unary operators before it.
data Outer : Type 0 where
  Before : Tree → Sign → Outer
  Inside : List Sign → Outer

abbrev marks : List Sign → List TokenKind
marks [] = []
marks (s ∷ ss) = token.Sign s ∷ marks ss

abbrev spelled_by : List Outer → List TokenKind
spelled_by [] = []
spelled_by (Before t s ∷ c) = spelled_by c ++ (spelling t ++ token.Sign s ∷ [])
spelled_by (Inside ss ∷ c) = spelled_by c ++ (marks ss ++ token.Sign OpenParen ∷ [])

abbrev opens : List Outer → ℕ
opens [] = 0
opens (Before t s ∷ c) = opens c
opens (Inside ss ∷ c) = opens c + 1

abbrev IsLooser : ℕ → List Outer → Type 0
IsLooser k [] = Unit {0}
IsLooser k (Before t s ∷ c) = k < precedence s
IsLooser k (Inside ss ∷ c) = Unit {0}

abbrev ArePrefixes : List Sign → Type 0
ArePrefixes [] = Unit {0}
ArePrefixes (s ∷ ss) = (is_prefix s ≡ true) × ArePrefixes ss

abbrev IsSound : List Outer → Type 0
IsSound [] = Unit {0}
IsSound (Before t s ∷ c) = (0 < precedence s) × (rank t ≤ precedence s) × IsLevelled t × IsLooser (precedence s) c × IsSound c
IsSound (Inside ss ∷ c) = ArePrefixes ss × IsSound c

abbrev wrapped : List Sign → Tree → Tree
wrapped [] t = t
wrapped (s ∷ ss) t = Unary s (wrapped ss t)

spelling-wrapped : (ss : List Sign) (t : Tree) → spelling (wrapped ss t) ≡ marks ss ++ spelling t
spelling-wrapped [] t = refl
spelling-wrapped (s ∷ ss) t = ap (λ l. token.Sign s ∷ l) (spelling-wrapped ss t)

rank-wrapped : (ss : List Sign) (t : Tree) → rank t ≡ 0 → rank (wrapped ss t) ≡ 0
rank-wrapped [] t e = e
rank-wrapped (s ∷ ss) t e = refl

IsLevelled-wrapped : (ss : List Sign) (t : Tree) → ArePrefixes ss → rank t ≡ 0 → IsLevelled t → IsLevelled (wrapped ss t)
IsLevelled-wrapped [] t a e w = w
IsLevelled-wrapped (s ∷ ss) t a e w = (a.0, rank-wrapped ss t e, IsLevelled-wrapped ss t a.1 e w)

marks-snoc : (ss : List Sign) (s : Sign) → marks (ss ++ s ∷ []) ≡ marks ss ++ token.Sign s ∷ []
marks-snoc [] s = refl
marks-snoc (x ∷ ss) s = ap (λ l. token.Sign x ∷ l) (marks-snoc ss s)

ArePrefixes-snoc : (ss : List Sign) (s : Sign) → ArePrefixes ss → is_prefix s ≡ true → ArePrefixes (ss ++ s ∷ [])
ArePrefixes-snoc [] s a h = (h, tt)
ArePrefixes-snoc (x ∷ ss) s a h = (a.0, ArePrefixes-snoc ss s a.1 h)

regroup : (a b xs : List TokenKind) (m : TokenKind) → (a ++ (b ++ m ∷ [])) ++ xs ≡ (a ++ b) ++ m ∷ xs
regroup a b xs m = simp append_assoc

record Reduced (k : ℕ) (c : List Outer) (u : Tree) : Type 0 where
  outer : List Outer
  tree : Tree
  same : spelled_by outer ++ spelling tree ≡ spelled_by c ++ spelling u
  sound : IsSound outer
  levelled : IsLevelled tree
  tight : rank tree ≤ k
  looser : IsLooser k outer
  depth : opens outer ≡ opens c

joined : (a b xs : List TokenKind) (m : TokenKind) → a ++ (b ++ m ∷ xs) ≡ (a ++ (b ++ m ∷ [])) ++ xs
joined a b xs m = simp append_assoc

reduce : (k : ℕ) (c : List Outer) (u : Tree) → IsSound c → IsLevelled u → rank u ≤ k → IsLooser (rank u) c → Reduced k c u
reduce k [] u s w h l = record { outer = []; tree = u; same = refl; sound = s; levelled = w; tight = h; looser = tt; depth = refl }
reduce k (Inside ss ∷ c) u s w h l = record { outer = Inside ss ∷ c; tree = u; same = refl; sound = s; levelled = w; tight = h; looser = tt; depth = refl }
reduce k (Before t x ∷ c) u s w h l =
    ⊎_elim
    (λ far. record { outer = Before t x ∷ c; tree = u; same = refl; sound = s; levelled = w; tight = h; looser = far; depth = refl })
    (λ near. let r = reduce k c (Binary t x u) s.4 (s.0, s.1, l, s.2, w) near s.3 in record { outer = r.outer; tree = r.tree; same = r.same ∙ joined (spelled_by c) (spelling t) (spelling u) (token.Sign x); sound = r.sound; levelled = r.levelled; tight = r.tight; looser = r.looser; depth = r.depth })
    (cases_lt k (precedence x))

-- The result of a closing parenthesis: the tree of the whole parenthesis, and what surrounds it.
record Closed (c : List Outer) (u : Tree) : Type 0 where
  outer : List Outer
  tree : Tree
  same : spelled_by outer ++ spelling tree ≡ spelled_by c ++ (spelling u ++ token.Sign CloseParen ∷ [])
  sound : IsSound outer
  levelled : IsLevelled tree
  single : rank tree ≡ 0
  depth : opens outer + 1 ≡ opens c

close : (c : List Outer) (u : Tree) → IsSound c → IsLevelled u → IsLooser 5 c → 0 < opens c → Closed c u
close [] u s w l o = absurd (omega arith)
close (Before t x ∷ c) u s w l o = absurd (omega (arith, precedence-≤5 x))
close (Inside ss ∷ c) u s w l o = record {
  outer = c;
  tree = wrapped ss (Parens u);
  same = ap (λ y. spelled_by c ++ y) (spelling-wrapped ss (Parens u)) ∙ joined (spelled_by c) (marks ss) (spelling u ++ token.Sign CloseParen ∷ []) (token.Sign OpenParen);
  sound = s.1;
  levelled = IsLevelled-wrapped ss (Parens u) s.0 refl w;
  single = rank-wrapped ss (Parens u) refl;
  depth = refl;
}

end : (c : List Outer) (u : Tree) → IsLevelled u → IsLooser 5 c → opens c ≡ 0 → IsTree (spelled_by c ++ spelling u)
end [] u w l o = record { tree = u; spelled = refl; levelled = w }
end (Before t x ∷ c) u w l o = absurd (omega (arith, precedence-≤5 x))
end (Inside ss ∷ c) u w l o = absurd (omega arith)

guard-ok : (b : Bool) (e : ExprFault) (q : ShapeState) (f : ShapeState → Result (Unit {0}) ExprFault) → (cond b (Err e) (Ok q) >>= f) ≡ Ok tt → (b ≡ false) × (f q ≡ Ok tt)
guard-ok true e q f h = cc
guard-ok false e q f h = (refl, h)

abbrev ended : Bool → Result (Unit {0}) ExprFault
ended b = cond b (Ok tt) (Err Syntax)

ends-ok : (b : Bool) → ended b ≡ Ok tt → b ≡ true
ends-ok true h = refl
ends-ok false h = cc

abbrev place_in : List Outer → ℕ → Bool → ShapeState
place_in c n after = record { opened = opens c; signs = n; after_operand = after }

-- A sign after an operand is a closing parenthesis or an operator.
after-ok : (s : Sign) (c : List Outer) (n : ℕ) (xs : List TokenKind) → (after_sign (place_in c n true) s >>= λ q. shape q xs) ≡ Ok tt
    → ((s ≡ CloseParen) × (0 < opens c) × (shape (record { opened = opens c - 1; signs = 0; after_operand = true }) xs ≡ Ok tt)) ⊎ ((0 < precedence s) × (shape (place_in c 0 false) xs ≡ Ok tt))
after-ok CloseParen c n xs h =
    let g = guard-ok (eqb (opens c) 0) Syntax (record { opened = opens c - 1; signs = 0; after_operand = true }) (λ q. shape q xs) h in
    inl (refl, (let z : opens c ≡ 0 → ⊥ = eqb-false (opens c) 0 g.0 in omega arith), g.1)
after-ok s c n xs h =
    let g = guard-ok (eqb (precedence s) 0) Syntax (place_in c 0 false) (λ q. shape q xs) h in
    inr ((let z : precedence s ≡ 0 → ⊥ = eqb-false (precedence s) 0 g.0 in omega arith), g.1)

looser-zero : (c : List Outer) (u : Tree) → rank u ≡ 0 → IsSound c → IsLooser (rank u) c
looser-zero [] u z s = tt
looser-zero (Before t x ∷ c) u z s = omega (arith, s.0)
looser-zero (Inside ss ∷ c) u z s = tt

mutual
  before : (xs : List TokenKind) (c : List Outer) (ss : List Sign) (n : ℕ) → shape (place_in c n false) xs ≡ Ok tt → IsSound c → ArePrefixes ss → IsTree (spelled_by c ++ (marks ss ++ xs))
  before [] c ss n h s a = cc
  before (Number x ∷ xs) c ss n h s a =
      subst IsTree
      (ap (λ l. spelled_by c ++ (l ++ xs)) (spelling-wrapped ss (Numeral x)) ∙ ap (λ l. spelled_by c ++ l) (append_assoc (marks ss) (Number x ∷ []) xs))
      (after xs c (wrapped ss (Numeral x)) 0 h s (IsLevelled-wrapped ss (Numeral x) a refl tt) (rank-wrapped ss (Numeral x) refl))
  before (Name x ∷ xs) c ss n h s a =
      subst IsTree
      (ap (λ l. spelled_by c ++ (l ++ xs)) (spelling-wrapped ss (Named x)) ∙ ap (λ l. spelled_by c ++ l) (append_assoc (marks ss) (Name x ∷ []) xs))
      (after xs c (wrapped ss (Named x)) 0 h s (IsLevelled-wrapped ss (Named x) a refl tt) (rank-wrapped ss (Named x) refl))
  before (token.Sign Plus ∷ xs) c ss n h s a =
      subst (λ l. IsTree (spelled_by c ++ l)) (ap (λ l. l ++ xs) (marks-snoc ss Plus) ∙ append_assoc (marks ss) (token.Sign Plus ∷ []) xs)
      (before xs c (ss ++ Plus ∷ []) (n + 1) (guard-ok (leb 64 n) Depth (place_in c (n + 1) false) (λ q. shape q xs) h).1 s (ArePrefixes-snoc ss Plus a refl))
  before (token.Sign Minus ∷ xs) c ss n h s a =
      subst (λ l. IsTree (spelled_by c ++ l)) (ap (λ l. l ++ xs) (marks-snoc ss Minus) ∙ append_assoc (marks ss) (token.Sign Minus ∷ []) xs)
      (before xs c (ss ++ Minus ∷ []) (n + 1) (guard-ok (leb 64 n) Depth (place_in c (n + 1) false) (λ q. shape q xs) h).1 s (ArePrefixes-snoc ss Minus a refl))
  before (token.Sign Bang ∷ xs) c ss n h s a =
      subst (λ l. IsTree (spelled_by c ++ l)) (ap (λ l. l ++ xs) (marks-snoc ss Bang) ∙ append_assoc (marks ss) (token.Sign Bang ∷ []) xs)
      (before xs c (ss ++ Bang ∷ []) (n + 1) (guard-ok (leb 64 n) Depth (place_in c (n + 1) false) (λ q. shape q xs) h).1 s (ArePrefixes-snoc ss Bang a refl))
  before (token.Sign OpenParen ∷ xs) c ss n h s a =
      subst IsTree (sym (joined (spelled_by c) (marks ss) xs (token.Sign OpenParen)))
      (before xs (Inside ss ∷ c) [] 0 (guard-ok (leb 64 (opens c)) Depth (place_in (Inside ss ∷ c) 0 false) (λ q. shape q xs) h).1 (a, s) tt)
  before (token.Sign _ ∷ xs) c ss n h s a = cc

  after : (xs : List TokenKind) (c : List Outer) (u : Tree) (n : ℕ) → shape (place_in c n true) xs ≡ Ok tt → IsSound c → IsLevelled u → rank u ≡ 0 → IsTree (spelled_by c ++ (spelling u ++ xs))
  after [] c u n h s w z =
      let e = eqb-true (opens c) 0 (ends-ok (eqb (opens c) 0) h) in
      let r = reduce 5 c u s w (rank-≤5 u) (looser-zero c u z s) in
      subst IsTree (r.same ∙ ap (λ l. spelled_by c ++ l) (sym (append-nil (spelling u))))
      (end r.outer r.tree r.levelled r.looser (r.depth ∙ e))
  after (Number x ∷ xs) c u n h s w z = cc
  after (Name x ∷ xs) c u n h s w z = cc
  after (token.Sign x ∷ xs) c u n h s w z =
      ⊎_elim
      (λ closing.
      let r = reduce 5 c u s w (rank-≤5 u) (looser-zero c u z s) in
      let q = close r.outer r.tree r.sound r.levelled r.looser (omega (arith, closing.1, r.depth)) in
      let e : opens c - 1 ≡ opens q.outer = omega (arith, q.depth, r.depth) in
      subst (λ y. IsTree (spelled_by c ++ (spelling u ++ token.Sign y ∷ xs))) (sym closing.0)
      (subst IsTree
      (sym (append_assoc (spelled_by q.outer) (spelling q.tree) xs)
      ∙ ap (λ l. l ++ xs) q.same
      ∙ regroup (spelled_by r.outer) (spelling r.tree) xs (token.Sign CloseParen)
      ∙ ap (λ l. l ++ token.Sign CloseParen ∷ xs) r.same
      ∙ append_assoc (spelled_by c) (spelling u) (token.Sign CloseParen ∷ xs))
      (after xs q.outer q.tree 0 (subst (λ k. shape (record { opened = k; signs = 0; after_operand = true }) xs ≡ Ok tt) e closing.2) q.sound q.levelled q.single)))
      (λ operator.
      let r = reduce (precedence x) c u s w (omega (arith, z)) (looser-zero c u z s) in
      subst IsTree
      (regroup (spelled_by r.outer) (spelling r.tree) xs (token.Sign x)
      ∙ ap (λ l. l ++ token.Sign x ∷ xs) r.same
      ∙ append_assoc (spelled_by c) (spelling u) (token.Sign x ∷ xs))
      (before xs (Before r.tree x ∷ r.outer) [] 0 (subst (λ k. shape (record { opened = k; signs = 0; after_operand = false }) xs ≡ Ok tt) (sym r.depth) operator.1) (operator.0, r.tight, r.levelled, r.looser, r.sound) tt))
      (after-ok x c n xs h)

-- Tokens with a valid shape spell a tree.
pub shaped : (xs : List TokenKind) → shape start xs ≡ Ok tt → IsTree xs
shaped xs h = before xs [] [] 0 h tt tt
