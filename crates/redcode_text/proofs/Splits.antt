-- The last operator splits a spelled tree at its root, so splitting the tokens finds the tree.
use Rattle.std.proofs.Common.{◌≡◌, ℕ, zero, suc, ◌+◌, ◌-◌, ◌<◌, ◌≤◌, List, ◌∷◌, [], ◌++◌, length, Bool, true, false, ◌&&◌, arith, refl, ap, sym, ◌∙◌, append_assoc, append-nil, length-append, Option, Some, None, is_some, cond, eqb, eq-eqb, ◌⊎◌, inl, inr, ⊎_elim}
use Rattle.std.proofs.lemmas.Bool.{ne_eqb, false≢true, cases_lt}
use Rattle.std.proofs.lemmas.Bool.Decides.{eqb_tells}
use Rattle.redcode_text.specs.declared.token.TokenKind.{TokenKind}
use Rattle.redcode_text.specs.declared.token.TokenKind.TheVariants.{Number, Name}
use Rattle.redcode_text.specs.declared.token.TokenKind.TheVariants as token
use Rattle.redcode_text.specs.declared.token.Sign.{Sign}
use Rattle.redcode_text.specs.declared.token.Sign.TheVariants.{Plus, OpenParen, CloseParen}
use Rattle.redcode_text.specs.Expression.{precedence, Tree, Numeral, Named, Parens, Unary, Binary, Missing, OperatorSplit, operator_at, depth_after, ends_operand, later_or, last_operator, without_last, primary, parted, at_level, tree_within}
use Rattle.redcode_text.specs.Trees.{spelling, rank, is_prefix, IsLevelled}
use Rattle.redcode_text.proofs.Trees.{rank-≤5}

-- The given split of tokens, if there is one, with the tokens `xs` put before the first token.
abbrev prepended : List TokenKind → Option OperatorSplit → Option OperatorSplit
prepended xs (Some p) = Some (record { before = xs ++ p.before; sign = p.sign; after = p.after })
prepended xs None = None

later-none : (o : Option OperatorSplit) (x : TokenKind) (xs : List TokenKind) → later_or o x None xs ≡ prepended (x ∷ []) o
later-none (Some p) x xs = refl
later-none None x xs = refl

later-some : (o : Option OperatorSplit) (x : TokenKind) (here : Option Sign) (xs : List TokenKind) → is_some o ≡ true → later_or o x here xs ≡ prepended (x ∷ []) o
later-some (Some p) x here xs h = refl
later-some None x here xs h = absurd (false≢true h)

prepended-twice : (xs ys : List TokenKind) (o : Option OperatorSplit) → prepended xs (prepended ys o) ≡ prepended (xs ++ ys) o
prepended-twice xs ys (Some p) = ap (λ l. Some (record { before = l; sign = p.sign; after = p.after })) (sym (append_assoc xs ys p.before))
prepended-twice xs ys None = refl

is_some-prepended : (xs : List TokenKind) (o : Option OperatorSplit) → is_some (prepended xs o) ≡ is_some o
is_some-prepended xs (Some p) = refl
is_some-prepended xs None = refl

-- The sign leaves the depth of parentheses unchanged, and an operand follows it.
pub record IsInner (s : Sign) : Type 0 where
  pub depth : (d : ℕ) → depth_after d (token.Sign s) ≡ d
  pub wants : ends_operand (token.Sign s) ≡ false

prefix-inner : (s : Sign) → is_prefix s ≡ true → IsInner s
prefix-inner OpenParen h = absurd (false≢true h)
prefix-inner CloseParen h = absurd (false≢true h)
prefix-inner _ h = record { depth = λ d. refl; wants = refl }

operator-inner : (s : Sign) → 0 < precedence s → IsInner s
operator-inner OpenParen h = absurd (omega arith)
operator-inner CloseParen h = absurd (omega arith)
operator-inner _ h = record { depth = λ d. refl; wants = refl }

-- From an inner sign on, the last operator is a later one, or else the sign, if it is an operator of this precedence.
inner-last : (k d : ℕ) (after : Bool) (s : Sign) (xs : List TokenKind) → IsInner s → last_operator k d after (token.Sign s ∷ xs) ≡ later_or (last_operator k d false xs) (token.Sign s) (operator_at k d after (token.Sign s)) xs
inner-last k d after s xs h =
    (λ i. later_or (last_operator k (h.depth d i) (h.wants i) xs) (token.Sign s) (operator_at k d after (token.Sign s)) xs)

operator-none : (k d : ℕ) (s : Sign) → (d ≡ 0 → precedence s < k) → operator_at k d true (token.Sign s) ≡ None
operator-none k d s h =
    ⊎_elim
    (λ zero. ap (λ b. cond ((eqb d 0) && b) (Some s) None) (ne_eqb (precedence s) k (λ e. absurd (omega (arith, h zero.1)))) ∙ and-no (eqb d 0))
    (λ other. ap (λ b. cond (b && (eqb (precedence s) k)) (Some s) None) other.0)
    (eqb_tells d 0)
  where
    and-no : (b : Bool) → cond (b && false) (Some s) None ≡ None
    and-no true = refl
    and-no false = refl

operator-here : (k : ℕ) (s : Sign) → precedence s ≡ k → operator_at k 0 true (token.Sign s) ≡ Some s
operator-here k s e = ap (λ b. cond b (Some s) None) (eq-eqb (precedence s) k e)

-- No operator of the tree is the last one of precedence `k`: `o` is a later one, or the tree is inside parentheses
-- because the depth `d` is not 0, or its operators are tighter.
abbrev Passes : ℕ → ℕ → Tree → Option OperatorSplit → Type 0
Passes k d t o = (is_some o ≡ true) ⊎ (d ≡ 0 → rank t < k)

spelled-last : (k d : ℕ) (t : Tree) (rest : List TokenKind) → IsLevelled t → Passes k d t (last_operator k d true rest) → last_operator k d false (spelling t ++ rest) ≡ prepended (spelling t) (last_operator k d true rest)
spelled-last k d (Numeral n) rest w p = later-none (last_operator k d true rest) (Number n) rest
spelled-last k d (Named n) rest w p = later-none (last_operator k d true rest) (Name n) rest
spelled-last k d (Unary s t) rest w p =
    let q : Passes k d t (last_operator k d true rest) = ⊎_elim (λ a. inl a) (λ h. inr (λ e. omega (arith, h e, w.1))) p in
    inner-last k d false s (spelling t ++ rest) (prefix-inner s w.0)
    ∙ later-none (last_operator k d false (spelling t ++ rest)) (token.Sign s) (spelling t ++ rest)
    ∙ ap (prepended (token.Sign s ∷ [])) (spelled-last k d t rest w.2 q)
    ∙ prepended-twice (token.Sign s ∷ []) (spelling t) (last_operator k d true rest)
spelled-last k d (Parens t) rest w p =
    let o = last_operator k d true rest in
    let back : d + 1 - 1 ≡ d = omega arith in
    let inside : last_operator k (d + 1) true (token.Sign CloseParen ∷ rest) ≡ prepended (token.Sign CloseParen ∷ []) o =
    ap (λ b. later_or (last_operator k (d + 1 - 1) true rest) (token.Sign CloseParen) (cond (b && (eqb 0 k)) (Some CloseParen) None) rest) (ne_eqb (d + 1) 0 (λ e. absurd (omega arith)))
    ∙ ap (λ e. later_or (last_operator k e true rest) (token.Sign CloseParen) None rest) back
    ∙ later-none o (token.Sign CloseParen) rest in
    later-none (last_operator k (d + 1) false ((spelling t ++ token.Sign CloseParen ∷ []) ++ rest)) (token.Sign OpenParen) ((spelling t ++ token.Sign CloseParen ∷ []) ++ rest)
    ∙ ap (λ l. prepended (token.Sign OpenParen ∷ []) (last_operator k (d + 1) false l)) (append_assoc (spelling t) (token.Sign CloseParen ∷ []) rest)
    ∙ ap (prepended (token.Sign OpenParen ∷ [])) (spelled-last k (d + 1) t (token.Sign CloseParen ∷ rest) w (inr (λ e. absurd (omega arith))) ∙ ap (prepended (spelling t)) inside ∙ prepended-twice (spelling t) (token.Sign CloseParen ∷ []) o)
    ∙ prepended-twice (token.Sign OpenParen ∷ []) (spelling t ++ token.Sign CloseParen ∷ []) o
spelled-last k d (Binary l s r) rest w p =
    let o = last_operator k d true rest in
    let q : Passes k d r o = ⊎_elim (λ a. inl a) (λ h. inr (λ e. omega (arith, h e, w.2))) p in
    let right = spelled-last k d r rest w.4 q in
    let found : is_some o ≡ true → later_or (last_operator k d false (spelling r ++ rest)) (token.Sign s) (operator_at k d true (token.Sign s)) (spelling r ++ rest) ≡ prepended (token.Sign s ∷ []) (last_operator k d false (spelling r ++ rest)) =
    λ a. later-some (last_operator k d false (spelling r ++ rest)) (token.Sign s) (operator_at k d true (token.Sign s)) (spelling r ++ rest) (ap is_some right ∙ is_some-prepended (spelling r) o ∙ a) in
    let passed : (d ≡ 0 → precedence s < k) → later_or (last_operator k d false (spelling r ++ rest)) (token.Sign s) (operator_at k d true (token.Sign s)) (spelling r ++ rest) ≡ prepended (token.Sign s ∷ []) (last_operator k d false (spelling r ++ rest)) =
    λ h. ap (λ x. later_or (last_operator k d false (spelling r ++ rest)) (token.Sign s) x (spelling r ++ rest)) (operator-none k d s h) ∙ later-none (last_operator k d false (spelling r ++ rest)) (token.Sign s) (spelling r ++ rest) in
    let middle : last_operator k d true (token.Sign s ∷ (spelling r ++ rest)) ≡ prepended (token.Sign s ∷ spelling r) o =
    inner-last k d true s (spelling r ++ rest) (operator-inner s w.0)
    ∙ ⊎_elim found passed p
    ∙ ap (prepended (token.Sign s ∷ [])) right
    ∙ prepended-twice (token.Sign s ∷ []) (spelling r) o in
    let q' : Passes k d l (last_operator k d true (token.Sign s ∷ (spelling r ++ rest))) = ⊎_elim (λ a. inl (ap is_some middle ∙ is_some-prepended (token.Sign s ∷ spelling r) o ∙ a)) (λ h. inr (λ e. omega (arith, h e, w.1))) p in
    ap (last_operator k d false) (append_assoc (spelling l) (token.Sign s ∷ spelling r) rest)
    ∙ spelled-last k d l (token.Sign s ∷ (spelling r ++ rest)) w.3 q'
    ∙ ap (prepended (spelling l)) middle
    ∙ prepended-twice (spelling l) (token.Sign s ∷ spelling r) o
spelled-last k d Missing rest w p = absurd w

-- A tree whose operators are all tighter isn't split.
none-last : (k : ℕ) (t : Tree) → IsLevelled t → rank t < k → last_operator k 0 false (spelling t) ≡ None
none-last k t w h =
    ap (last_operator k 0 false) (sym (append-nil (spelling t))) ∙ spelled-last k 0 t [] w (inr (λ _. h))

-- A tree with a binary operator at its root is split at that operator.
root-last : (l r : Tree) (s : Sign) → IsLevelled (Binary l s r) → last_operator (precedence s) 0 false (spelling l ++ token.Sign s ∷ spelling r) ≡ Some (record { before = spelling l; sign = s; after = spelling r })
root-last l r s w =
    let here : last_operator (precedence s) 0 true (token.Sign s ∷ spelling r) ≡ Some (record { before = []; sign = s; after = spelling r }) =
    inner-last (precedence s) 0 true s (spelling r) (operator-inner s w.0)
    ∙ (λ i. later_or (none-last (precedence s) r w.4 w.2 i) (token.Sign s) (operator-here (precedence s) s refl i) (spelling r)) in
    spelled-last (precedence s) 0 l (token.Sign s ∷ spelling r) w.3 (inl (ap is_some here))
    ∙ ap (prepended (spelling l)) here
    ∙ ap (λ x. Some (record { before = x; sign = s; after = spelling r })) (append-nil (spelling l))

without_last-snoc : (xs : List TokenKind) (x : TokenKind) → without_last (xs ++ x ∷ []) ≡ xs
without_last-snoc [] x = refl
without_last-snoc (y ∷ []) x = refl
without_last-snoc (y ∷ z ∷ ys) x = ap (λ l. y ∷ l) (without_last-snoc (z ∷ ys) x)

prefix-primary : (tree : ℕ → List TokenKind → Tree) (s : Sign) (xs : List TokenKind) → is_prefix s ≡ true → primary tree (token.Sign s ∷ xs) ≡ Unary s (tree 0 xs)
prefix-primary tree OpenParen xs h = absurd (false≢true h)
prefix-primary tree Plus xs h = refl
prefix-primary tree _ xs h = refl

spelling-nonempty : (t : Tree) → IsLevelled t → 0 < length (spelling t)
spelling-nonempty (Binary l s r) w = omega (arith, length-append (spelling l) (token.Sign s ∷ spelling r))
spelling-nonempty Missing w = absurd w
spelling-nonempty (Numeral n) w = omega arith
spelling-nonempty _ w = omega arith

descend : (tree : ℕ → List TokenKind → Tree) (t : Tree) (k : ℕ) → IsLevelled t → rank t ≤ k → at_level tree k (spelling t) ≡ at_level tree (rank t) (spelling t)
descend tree t zero w h = ap (λ k. at_level tree k (spelling t)) (let e : 0 ≡ rank t = omega arith in e)
descend tree t (suc k) w h =
    ⊎_elim
    (λ below. ap (λ o. parted tree k o (at_level tree k (spelling t))) (none-last (suc k) t w below) ∙ descend tree t k w (omega arith))
    (λ above. ap (λ k. at_level tree k (spelling t)) (let e : suc k ≡ rank t = omega arith in e))
    (cases_lt (rank t) (suc k))

joined-root : (tree : ℕ → List TokenKind → Tree) (l r : Tree) (s : Sign) (j : ℕ) → precedence s ≡ suc j → IsLevelled (Binary l s r) → tree (suc j) (spelling l) ≡ l → tree j (spelling r) ≡ r → at_level tree (precedence s) (spelling l ++ token.Sign s ∷ spelling r) ≡ Binary l s r
joined-root tree l r s j e w left right =
    let xs = spelling l ++ token.Sign s ∷ spelling r in
    ap (λ k. at_level tree k xs) e
    ∙ ap (λ o. parted tree j o (at_level tree j xs)) (ap (λ k. last_operator k 0 false xs) (sym e) ∙ root-last l r s w)
    ∙ (λ i. Binary (left i) s (right i))

-- Splitting the tokens of a tree finds the tree.
pub tree-spelled : (t : Tree) (n k : ℕ) → IsLevelled t → length (spelling t) ≤ n → rank t ≤ k → tree_within n k (spelling t) ≡ t
unfolding tree_within
tree-spelled t zero k w len h = absurd (omega (arith, spelling-nonempty t w))
tree-spelled (Numeral x) (suc n) k w len h = descend (tree_within n) (Numeral x) k w h
tree-spelled (Named x) (suc n) k w len h = descend (tree_within n) (Named x) k w h
tree-spelled (Parens t) (suc n) k w len h =
    descend (tree_within n) (Parens t) k w h
    ∙ ap (λ l. Parens (tree_within n 5 l)) (without_last-snoc (spelling t) (token.Sign CloseParen))
    ∙ ap Parens (tree-spelled t n 5 w (omega (arith, length-append (spelling t) (token.Sign CloseParen ∷ []))) (rank-≤5 t))
tree-spelled (Unary s t) (suc n) k w len h =
    descend (tree_within n) (Unary s t) k w h
    ∙ prefix-primary (tree_within n) s (spelling t) w.0
    ∙ ap (Unary s) (tree-spelled t n 0 w.2 (omega arith) (omega (arith, w.1)))
tree-spelled (Binary l s r) (suc n) k w len h =
    let lengths = length-append (spelling l) (token.Sign s ∷ spelling r) in
    let j = precedence s - 1 in
    let e : precedence s ≡ suc j = omega (arith, w.0) in
    descend (tree_within n) (Binary l s r) k w h
    ∙ joined-root (tree_within n) l r s j e w
    (tree-spelled l n (suc j) w.3 (omega (arith, lengths)) (omega (arith, w.1, e)))
    (tree-spelled r n j w.4 (omega (arith, lengths)) (omega (arith, w.2, e)))
tree-spelled Missing (suc n) k w len h = absurd w
