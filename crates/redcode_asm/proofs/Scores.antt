-- Evaluating a formula has no errors except DivideByZero and Range.
use Rattle.std.proofs.Common.{◌≡◌, ◌∙◌, ℕ, ◌<◌, List, [], ◌∷◌, ◌++◌, length, Bool, true, false, ◌&&◌, ◌||◌, if◌then◌else◌, ℤ, Option, Some, None, is_some, Result, Ok, Err, ap, sym, subst, refl, arith, IfErr}
use Rattle.std.specs.Prelude.{pos, negsuc, ◌^◌, nat_lt, neg_ℤ, ◌+ℤ◌, ◌-ℤ◌, ◌*ℤ◌, int_div, int_rem, codes}
use Rattle.std.specs.Ordering.{int_eq}
use Rattle.std.specs.List.{list_all}
use Rattle.std.specs.Str.{bytes_eq}
use Rattle.std.proofs.lemmas.Bool.{and_parts}
use Rattle.std.proofs.lemmas.List.Folds.{list_all-append}
use Rattle.redcode_text.specs.Results.{◌>>=◌}
use Rattle.redcode_text.specs.declared.token.Sign.{Sign}
use Rattle.redcode_text.specs.declared.token.Sign.TheVariants.{Equal, NotEqual, LessEqual, GreaterEqual, And, Or, Plus, Minus, Star, Slash, Percent, Bang, Less, Greater}
use Rattle.redcode_text.specs.declared.token.TokenKind.{TokenKind}
use Rattle.redcode_text.specs.declared.token.TokenKind.TheVariants.{Number, Name}
use Rattle.redcode_text.specs.declared.token.TokenKind.TheVariants as token
use Rattle.redcode_text.specs.declared.fault.ExprFault.{ExprFault}
use Rattle.redcode_text.specs.declared.fault.ExprFault.TheVariants.{Syntax, Unknown, DivideByZero, Range}
use Rattle.redcode_text.specs.declared.fault.TextFault.{TextFault}
use Rattle.redcode_text.specs.Expression.{Tree, Numeral, Named, Parens, Unary, Binary, Missing, binary, in_range, kinds, known, precedence, shape, start, tree_within, unary, value, value_of}
use Rattle.redcode_text.specs.Lines.{name_at}
use Rattle.redcode_text.specs.Tokens.{Scanned, scanned}
use Rattle.redcode_text.proofs.CallerLemmas.{spelling, is_prefix, IsLevelled, rank-≤5, shaped, tree-spelled}
use Rattle.redcode_asm.specs.Formula.{checked_formula, may_occur, scanned_formula, score_of, variable_value}
use Rattle.redcode_asm.specs.Laws.{IsValueFault, ScoresHaveValues}

-- A result is a value, or an error that depends on values.
abbrev HasValue : Result ℤ ExprFault → Type 0
HasValue r = IfErr r IsValueFault

bind-value : (r : Result ℤ ExprFault) (f : ℤ → Result ℤ ExprFault) → HasValue r → ((v : ℤ) → HasValue (f v)) → HasValue (r >>= f)
bind-value (Ok v) f h next = next v
bind-value (Err e) f h next = h

range-by : (b : Bool) (v : ℤ) → HasValue (if b then Ok v else Err Range)
range-by true v = tt
range-by false v = tt

range-value : (v : ℤ) → HasValue (in_range v)
range-value (pos n) = range-by (nat_lt n (2 ^ 63)) (pos n)
range-value (negsuc n) = range-by (nat_lt n (2 ^ 63)) (negsuc n)

unary-value : (s : Sign) (v : ℤ) → is_prefix s ≡ true → HasValue (unary s v)
unary-value Plus v h = tt
unary-value Minus v h = range-value (neg_ℤ v)
unary-value Bang v h = tt
unary-value _ v h = cc

divided-by : (b : Bool) (r : Result ℤ ExprFault) → HasValue r → HasValue (if b then Err DivideByZero else r)
divided-by true r h = tt
divided-by false r h = h

binary-value : (s : Sign) (a b : ℤ) → 0 < precedence s → HasValue (binary s a b)
binary-value Or a b h = tt
binary-value And a b h = tt
binary-value Equal a b h = tt
binary-value NotEqual a b h = tt
binary-value Less a b h = tt
binary-value Greater a b h = tt
binary-value LessEqual a b h = tt
binary-value GreaterEqual a b h = tt
binary-value Plus a b h = range-value (a +ℤ b)
binary-value Minus a b h = range-value (a -ℤ b)
binary-value Star a b h = range-value (a *ℤ b)
binary-value Slash a b h = divided-by (int_eq b (pos 0)) (in_range (int_div a b)) (range-value (int_div a b))
binary-value Percent a b h =
    divided-by (int_eq b (pos 0)) (in_range (int_div a b) >>= λ _. Ok (int_rem a b)) (bind-value (in_range (int_div a b)) (λ _. Ok (int_rem a b)) (range-value (int_div a b)) (λ _. tt))
binary-value _ a b h = absurd (omega (arith, h))

-- A token is no name, or a name with a value.
abbrev stands : (ℕ → Option ℤ) → TokenKind → Bool
stands names (Name n) = is_some (names n)
stands names _ = true

known-by : (o : Option ℤ) → is_some o ≡ true → HasValue (known o)
known-by (Some v) h = tt
known-by None h = cc

fronts-stand : (names : ℕ → Option ℤ) (xs ys : List TokenKind) → list_all (stands names) (xs ++ ys) ≡ true → list_all (stands names) xs ≡ true
fronts-stand names xs ys h = (and_parts _ (list_all (stands names) ys) (sym (list_all-append (stands names) xs ys) ∙ h)).0

backs-stand : (names : ℕ → Option ℤ) (xs ys : List TokenKind) → list_all (stands names) (xs ++ ys) ≡ true → list_all (stands names) ys ≡ true
backs-stand names xs ys h = (and_parts (list_all (stands names) xs) _ (sym (list_all-append (stands names) xs ys) ∙ h)).1

tree-value : (names : ℕ → Option ℤ) (t : Tree) → IsLevelled t → list_all (stands names) (spelling t) ≡ true → HasValue (value names t)
tree-value names (Numeral n) l h = tt
tree-value names (Named n) l h = known-by (names n) (and_parts (is_some (names n)) true h).0
tree-value names (Parens t) l h = tree-value names t l (fronts-stand names (spelling t) _ h)
tree-value names (Unary s t) l h = bind-value (value names t) (λ v. unary s v) (tree-value names t l.2 h) (λ v. unary-value s v l.0)
tree-value names (Binary a s b) l h =
    bind-value (value names a) (λ x. value names b >>= λ y. binary s x y) (tree-value names a l.3 (fronts-stand names (spelling a) _ h))
    (λ x. bind-value (value names b) (λ y. binary s x y) (tree-value names b l.4 (backs-stand names (spelling a) (token.Sign s ∷ spelling b) h)) (λ y. binary-value s x y l.0))
tree-value names Missing l h = absurd l

tokens-value : (names : ℕ → Option ℤ) (xs : List TokenKind) → shape start xs ≡ Ok tt → list_all (stands names) xs ≡ true → HasValue (value_of names xs)
unfolding value_of
tokens-value names xs h all =
    let t = shaped xs h in
    let tree_is : tree_within (length xs) 5 xs ≡ t.tree =
    subst (λ l. tree_within (length l) 5 l ≡ t.tree) t.spelled (tree-spelled t.tree (length (spelling t.tree)) 5 t.levelled (omega arith) (rank-≤5 t.tree)) in
    subst HasValue (sym (ap (λ r. r >>= λ _. value names (tree_within (length xs) 5 xs)) h ∙ ap (value names) tree_is))
    (tree-value names t.tree t.levelled (subst (λ l. list_all (stands names) l ≡ true) (sym t.spelled) all))

-- W and S have values.
variable-by : (a b : Bool) (w s : ℤ) → (a || b) ≡ true → is_some (if a then Some w else if b then Some s else None) ≡ true
variable-by true b w s h = refl
variable-by false true w s h = refl
variable-by false false w s h = h

both : (a b c d : Bool) → (a ≡ true → c ≡ true) → (b ≡ true → d ≡ true) → (a && b) ≡ true → (c && d) ≡ true
both true b c d first rest h = rw (first refl) (rest h)
both false b c d first rest h = cc

kind-stands : (f : Scanned) (w s : ℤ) (k : TokenKind) → may_occur f.names k ≡ true → stands (λ n. variable_value w s (name_at f.names n)) k ≡ true
kind-stands f w s (Name n) h = variable-by (bytes_eq (name_at f.names n) (codes "W")) (bytes_eq (name_at f.names n) (codes "S")) w s h
kind-stands f w s (Number n) h = refl
kind-stands f w s (token.Sign x) h = refl

kinds-stand : (f : Scanned) (w s : ℤ) (ks : List TokenKind) → list_all (may_occur f.names) ks ≡ true → list_all (stands (λ n. variable_value w s (name_at f.names n))) ks ≡ true
kinds-stand f w s [] h = refl
kinds-stand f w s (k ∷ ks) h =
    both (may_occur f.names k) (list_all (may_occur f.names) ks) (stands (λ n. variable_value w s (name_at f.names n)) k) (list_all (stands (λ n. variable_value w s (name_at f.names n))) ks)
    (kind-stands f w s k) (kinds-stand f w s ks) h

abbrev got : Scanned → Result Scanned ExprFault → Scanned
got g (Ok f) = f
got g (Err e) = g

abbrev read : Scanned → Result Scanned ExprFault
read f = Ok f

ok-same : (g f : Scanned) → read g ≡ read f → g ≡ f
ok-same g f h = ap (got g) h

-- A checked formula has the shape of an expression.
shape-checked : (r : Result (Unit {0}) ExprFault) (b : Bool) (f : Scanned) → (r >>= λ _. if b then Ok f else Err Unknown) ≡ Ok f → r ≡ Ok tt
shape-checked (Ok tt) b f h = refl
shape-checked (Err e) b f h = cc

names-by : (b : Bool) (f : Scanned) → (if b then Ok f else Err Unknown) ≡ Ok f → b ≡ true
names-by true f h = refl
names-by false f h = cc

names-checked : (r : Result (Unit {0}) ExprFault) (b : Bool) (f : Scanned) → (r >>= λ _. if b then Ok f else Err Unknown) ≡ Ok f → b ≡ true
names-checked (Ok tt) b f h = names-by b f h
names-checked (Err e) b f h = cc

pub checked-value : (f : Scanned) (w s : ℤ) → checked_formula f ≡ Ok f → HasValue (score_of f w s)
checked-value f w s h =
    tokens-value (λ n. variable_value w s (name_at f.names n)) (kinds f.tokens) (shape-checked (shape start (kinds f.tokens)) (list_all (may_occur f.names) (kinds f.tokens)) f h)
    (kinds-stand f w s (kinds f.tokens) (names-checked (shape start (kinds f.tokens)) (list_all (may_occur f.names) (kinds f.tokens)) f h))

-- A checked formula is the formula that was given.
same-by : (b : Bool) (g f : Scanned) → (if b then Ok g else Err Unknown) ≡ Ok f → g ≡ f
same-by true g f h = ok-same g f h
same-by false g f h = cc

same-checked : (r : Result (Unit {0}) ExprFault) (b : Bool) (g f : Scanned) → (r >>= λ _. if b then Ok g else Err Unknown) ≡ Ok f → g ≡ f
same-checked (Ok tt) b g f h = same-by b g f h
same-checked (Err e) b g f h = cc

scan-value : (r : Result Scanned TextFault) (f : Scanned) (w s : ℤ) → scanned_formula r ≡ Ok f → HasValue (score_of f w s)
scan-value (Ok g) f w s h =
    let same = same-checked (shape start (kinds g.tokens)) (list_all (may_occur g.names) (kinds g.tokens)) g f h in
    checked-value f w s (subst (λ x. checked_formula x ≡ Ok f) same h)
scan-value (Err e) f w s h = cc

text-value : (b : Bool) (text : List ℕ) (f : Scanned) (w s : ℤ) → (if b then Err Syntax else scanned_formula (scanned text)) ≡ Ok f → HasValue (score_of f w s)
text-value true text f w s h = cc
text-value false text f w s h = scan-value (scanned text) f w s h

pub score_has_value : ScoresHaveValues
score_has_value text f w s h = text-value (nat_lt 256 (length text)) text f w s h
