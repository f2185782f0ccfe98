-- The evaluation with a stack gives a spelled tree its value.
use Rattle.std.proofs.Common.{◌≡◌, ℕ, ◌<◌, ◌≤◌, List, ◌∷◌, [], ◌++◌, true, arith, Result, Ok, Err, refl, ap, sym, ◌∙◌, append_assoc, Option, cond, ℤ}
use Rattle.redcode_text.specs.Results.{◌>>=◌}
use Rattle.redcode_text.specs.declared.token.TokenKind.{TokenKind}
use Rattle.redcode_text.specs.declared.token.TokenKind.TheVariants.{Number, Name}
use Rattle.redcode_text.specs.declared.token.TokenKind.TheVariants as token
use Rattle.redcode_text.specs.declared.token.Sign.{Sign}
use Rattle.redcode_text.specs.declared.token.Sign.TheVariants.{Plus, OpenParen, CloseParen}
use Rattle.redcode_text.specs.declared.fault.ExprFault.{ExprFault}
use Rattle.redcode_text.specs.Expression.{precedence, unary, binary, known, value, Tree, Numeral, Named, Parens, Unary, Binary, Missing}
use Rattle.redcode_text.specs.Code.Climbing.{Follows, Waiting, Left, Opened, State, wants, has, signed, reduced, operand, reach, placed, before_mark, run, IsLooser}
use Rattle.redcode_text.specs.Trees.{spelling, rank, is_prefix, IsLevelled}
use Rattle.redcode_text.proofs.Trees.{precedence-≤5, rank-≤5}
use Rattle.std.proofs.lemmas.Bool.{le-leb, lt-leb}

pub assoc : {A B C : Type 0} (r : Result A ExprFault) (f : A → Result B ExprFault) (g : B → Result C ExprFault) → ((r >>= f) >>= g) ≡ (r >>= λ x. f x >>= g)
assoc (Ok x) f g = refl
assoc (Err e) f g = refl

pub unit : {A : Type 0} (r : Result A ExprFault) → (r >>= λ x. Ok x) ≡ r
unit (Ok x) = refl
unit (Err e) = refl

abbrev pub Fits : Tree → List Waiting → List TokenKind → List TokenKind → Type 0
Fits (Binary l s r) stack [] rest = IsLooser (precedence s) stack × Follows (precedence s) rest
Fits (Binary l s r) stack (_ ∷ _) rest = ⊥
Fits _ stack signs rest = Unit {0}

pub looser-below : (k j : ℕ) (stack : List Waiting) → k ≤ j → IsLooser j stack → IsLooser k stack
looser-below k j [] le h = tt
looser-below k j (Left u s ∷ stack) le h = omega arith
looser-below k j (Opened signs ∷ stack) le h = tt

pub follows-below : (k j : ℕ) (rest : List TokenKind) → k ≤ j → Follows j rest → Follows k rest
follows-below k j [] le h = tt
follows-below k j (token.Sign s ∷ xs) le h = omega arith
follows-below k j (Number n ∷ xs) le h = h
follows-below k j (Name n ∷ xs) le h = h

pub fits : (t : Tree) (stack : List Waiting) (rest : List TokenKind) → IsLooser (rank t) stack → Follows (rank t) rest → Fits t stack [] rest
fits (Binary l s r) stack rest a b = (a, b)
fits (Numeral n) stack rest a b = tt
fits _ stack rest a b = tt

fits-zero : (t : Tree) (stack : List Waiting) (signs rest : List TokenKind) → rank t ≡ 0 → IsLevelled t → Fits t stack signs rest
fits-zero (Binary l s r) stack signs rest e w = absurd (omega arith)
fits-zero (Numeral n) stack signs rest e w = tt
fits-zero _ stack signs rest e w = tt

signed-snoc : (signs : List TokenKind) (s : Sign) (v : ℤ) → signed (signs ++ token.Sign s ∷ []) v ≡ (unary s v >>= λ w. signed signs w)
signed-snoc [] s v = sym (unit (unary s v))
signed-snoc (token.Sign x ∷ signs) s v = ap (λ r. r >>= λ w. unary x w) (signed-snoc signs s v) ∙ assoc (unary s v) (λ w. signed signs w) (λ w. unary x w)
signed-snoc (Number n ∷ signs) s v = signed-snoc signs s v
signed-snoc (Name n ∷ signs) s v = signed-snoc signs s v

prefix-moves : (st : State) (s : Sign) → is_prefix s ≡ true → before_mark st s ≡ Ok (wants st.value st.stack (st.signs ++ token.Sign s ∷ []))
prefix-moves st OpenParen h = cc
prefix-moves st Plus h = refl
prefix-moves st _ h = refl

-- A binary operator applies the waiting operators of its own level and tighter ones.
pub operator-reach : (s : Sign) → 0 < precedence s → reach s ≡ precedence s
operator-reach CloseParen h = absurd (omega arith)
operator-reach Plus h = refl
operator-reach _ h = refl

pub operator-placed : (s : Sign) (v : ℤ) (stack : List Waiting) → 0 < precedence s → placed s v stack ≡ Ok (wants v (Left v s ∷ stack) [])
operator-placed CloseParen v stack h = absurd (omega arith)
operator-placed Plus v stack h = refl
operator-placed _ v stack h = refl

pub reduced-looser : (k : ℕ) (stack : List Waiting) (v : ℤ) → IsLooser k stack → reduced k stack v ≡ Ok (v, stack)
reduced-looser k [] v h = refl
reduced-looser k (Left u s ∷ stack) v h = ap (λ b. cond b (binary s u v >>= λ w. reduced k stack w) (Ok (v, Left u s ∷ stack))) (lt-leb (precedence s) k h)
reduced-looser k (Opened signs ∷ stack) v h = refl

pub reduced-tighter : (k : ℕ) (u v : ℤ) (s : Sign) (stack : List Waiting) → precedence s ≤ k → reduced k (Left u s ∷ stack) v ≡ (binary s u v >>= λ w. reduced k stack w)
reduced-tighter k u v s stack h = ap (λ b. cond b (binary s u v >>= λ w. reduced k stack w) (Ok (v, Left u s ∷ stack))) (le-leb (precedence s) k h)

operand-run : (names : ℕ → Option ℤ) (v : ℤ) (stack : List Waiting) (signs rest : List TokenKind) (n : ℤ) → (operand (wants v stack signs) n >>= λ next. run names next rest) ≡ (signed signs n >>= λ w. run names (has w stack) rest)
operand-run names v stack signs rest n = assoc (signed signs n) (λ w. Ok (has w stack)) (λ next. run names next rest)

-- A waiting operator is applied before the remaining tokens, if they do not begin with a tighter operator.
pub pops : (names : ℕ → Option ℤ) (a b : ℤ) (s : Sign) (stack : List Waiting) (rest : List TokenKind) → Follows (precedence s) rest → run names (has b (Left a s ∷ stack)) rest ≡ (binary s a b >>= λ w. run names (has w stack) rest)
pops names a b s stack [] h =
    ap (λ r. r >>= λ r. Ok r.0) (reduced-tighter 5 a b s stack (precedence-≤5 s)) ∙ assoc (binary s a b) (λ w. reduced 5 stack w) (λ r. Ok r.0)
pops names a b s stack (token.Sign x ∷ xs) h =
    ap (λ r. (r >>= λ r. placed x r.0 r.1) >>= λ next. run names next xs) (reduced-tighter (reach x) a b s stack h)
    ∙ ap (λ r. r >>= λ next. run names next xs) (assoc (binary s a b) (λ w. reduced (reach x) stack w) (λ r. placed x r.0 r.1))
    ∙ assoc (binary s a b) (λ w. reduced (reach x) stack w >>= λ r. placed x r.0 r.1) (λ next. run names next xs)
pops names a b s stack (Number n ∷ xs) h = absurd h
pops names a b s stack (Name n ∷ xs) h = absurd h

-- An operator after an operand waits for its right operand.
pub waits : (names : ℕ → Option ℤ) (a : ℤ) (s : Sign) (stack : List Waiting) (rest : List TokenKind) → 0 < precedence s → IsLooser (precedence s) stack → run names (has a stack) (token.Sign s ∷ rest) ≡ run names (wants a (Left a s ∷ stack) []) rest
waits names a s stack rest pos h =
    ap (λ k. (reduced k stack a >>= λ r. placed s r.0 r.1) >>= λ next. run names next rest) (operator-reach s pos)
    ∙ ap (λ r. (r >>= λ r. placed s r.0 r.1) >>= λ next. run names next rest) (reduced-looser (precedence s) stack a h)
    ∙ ap (λ r. r >>= λ next. run names next rest) (operator-placed s a stack pos)

pub climbs : (names : ℕ → Option ℤ) (t : Tree) (v : ℤ) (stack : List Waiting) (signs rest : List TokenKind) → IsLevelled t → Fits t stack signs rest → run names (wants v stack signs) (spelling t ++ rest) ≡ (value names t >>= λ a. signed signs a >>= λ w. run names (has w stack) rest)
climbs names (Numeral n) v stack signs rest w f = operand-run names v stack signs rest n
climbs names (Named n) v stack signs rest w f =
    assoc (known (names n)) (λ a. operand (wants v stack signs) a) (λ next. run names next rest)
    ∙ (λ i. known (names n) >>= λ a. operand-run names v stack signs rest a i)
climbs names (Parens t) v stack signs rest w f =
    ap (λ l. run names (wants v (Opened signs ∷ stack) []) l) (append_assoc (spelling t) (token.Sign CloseParen ∷ []) rest)
    ∙ climbs names t v (Opened signs ∷ stack) [] (token.Sign CloseParen ∷ rest) w (fits t (Opened signs ∷ stack) (token.Sign CloseParen ∷ rest) tt (rank-≤5 t))
    ∙ (λ i. value names t >>= λ a. assoc (signed signs a) (λ w. Ok (has w stack)) (λ next. run names next rest) i)
climbs names (Unary s t) v stack signs rest w f =
    ap (λ r. r >>= λ next. run names next (spelling t ++ rest)) (prefix-moves (wants v stack signs) s w.0)
    ∙ climbs names t v stack (signs ++ token.Sign s ∷ []) rest w.2 (fits-zero t stack (signs ++ token.Sign s ∷ []) rest w.1 w.2)
    ∙ (λ i. value names t >>= λ a. (signed-snoc signs s a i) >>= λ x. run names (has x stack) rest)
    ∙ (λ i. value names t >>= λ a. assoc (unary s a) (λ x. signed signs x) (λ x. run names (has x stack) rest) i)
    ∙ sym (assoc (value names t) (λ a. unary s a) (λ a. signed signs a >>= λ x. run names (has x stack) rest))
climbs names (Binary l s r) v stack (x ∷ signs) rest w f = absurd f
climbs names (Binary l s r) v stack [] rest w f =
    ap (λ l. run names (wants v stack []) l) (append_assoc (spelling l) (token.Sign s ∷ spelling r) rest)
    ∙ climbs names l v stack [] (token.Sign s ∷ (spelling r ++ rest)) w.3 (fits l stack (token.Sign s ∷ (spelling r ++ rest)) (looser-below (rank l) (precedence s) stack w.1 f.0) (omega (arith, operator-reach s w.0)))
    ∙ (λ i. value names l >>= λ a. waits names a s stack (spelling r ++ rest) w.0 f.0 i)
    ∙ (λ i. value names l >>= λ a. climbs names r a (Left a s ∷ stack) [] rest w.4 (fits r (Left a s ∷ stack) rest w.2 (follows-below (rank r) (precedence s) rest (omega arith) f.1)) i)
    ∙ (λ i. value names l >>= λ a. value names r >>= λ b. pops names a b s stack rest f.1 i)
    ∙ (λ i. value names l >>= λ a. sym (assoc (value names r) (λ b. binary s a b) (λ x. run names (has x stack) rest)) i)
    ∙ sym (assoc (value names l) (λ a. value names r >>= λ b. binary s a b) (λ x. run names (has x stack) rest))
climbs names Missing v stack signs rest w f = absurd w
