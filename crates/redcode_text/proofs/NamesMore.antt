-- A name and its index in a table to which names are added.
use Rattle.std.proofs.Common.{◌≡◌, ℕ, zero, suc, ◌+◌, ◌<◌, List, [], ◌∷◌, ◌++◌, length, Bool, true, false, not, ◌||◌, cond, if◌then◌else◌, refl, ap, sym, append-nil, arith}
use Rattle.std.proofs.lemmas.List.{length-append}
use Rattle.std.proofs.lemmas.List.Sums.{prefix_len-le-length}
use Rattle.std.specs.List.{list_any}
use Rattle.std.specs.Str.{bytes_eq}
use Rattle.redcode_text.specs.Lines.{name_at}
use Rattle.redcode_text.specs.Tokens.{name_index, with_name}
use Rattle.redcode_text.proofs.NameSteps.{same-itself}

-- The table `grown` has the names of `names` at its start.
abbrev pub IsFrontOf : List (List ℕ) → List (List ℕ) → Type 0
IsFrontOf names grown = (more : List (List ℕ)) × (grown ≡ names ++ more)

abbrev pub IsThere : List (List ℕ) → List ℕ → Type 0
IsThere names name = name_index names name < length names

pub at-append : (texts more : List (List ℕ)) (i : ℕ) → i < length texts → name_at (texts ++ more) i ≡ name_at texts i
at-append [] more i h = absurd (omega (arith, h))
at-append (t ∷ texts) more zero h = refl
at-append (t ∷ texts) more (suc i) h = at-append texts more i (omega (arith, h))

any-there : (texts : List (List ℕ)) (q : List ℕ) → list_any (bytes_eq q) texts ≡ true → IsThere texts q
any-there [] q e = cc
any-there (t ∷ texts) q e = go (bytes_eq q t) e (any-there texts q)
  where
    go : (b : Bool) → (b || list_any (bytes_eq q) texts) ≡ true → (list_any (bytes_eq q) texts ≡ true → IsThere texts q) → cond (not b) (1 + name_index texts q) 0 < length (t ∷ texts)
    go true e ih = omega arith
    go false e ih = let less = ih e in omega (arith, less)

added-index : (texts : List (List ℕ)) (q : List ℕ) → name_index (texts ++ q ∷ []) q ≡ name_index texts q
added-index [] q = ap (λ b. cond (not b) 1 0) (same-itself q)
added-index (t ∷ texts) q = ap (λ n. cond (not (bytes_eq q t)) (1 + n) 0) (added-index texts q)

added-there : (texts : List (List ℕ)) (q : List ℕ) → IsThere (texts ++ q ∷ []) q
added-there texts q =
    let e = added-index texts q in let most = prefix_len-le-length (λ t. not (bytes_eq q t)) texts in
    omega (arith, e, most, length-append texts (q ∷ []))

pub with-index : (texts : List (List ℕ)) (q : List ℕ) → name_index (with_name texts q) q ≡ name_index texts q
with-index texts q = go (list_any (bytes_eq q) texts)
  where
    go : (b : Bool) → name_index (if b then texts else texts ++ q ∷ []) q ≡ name_index texts q
    go true = refl
    go false = added-index texts q

pub with-there : (texts : List (List ℕ)) (q : List ℕ) → IsThere (with_name texts q) q
with-there texts q = go (list_any (bytes_eq q) texts) refl
  where
    go : (b : Bool) → list_any (bytes_eq q) texts ≡ b → IsThere (if b then texts else texts ++ q ∷ []) q
    go true e = any-there texts q e
    go false e = added-there texts q

pub with-front : (texts : List (List ℕ)) (q : List ℕ) → IsFrontOf texts (with_name texts q)
with-front texts q = go (list_any (bytes_eq q) texts)
  where
    go : (b : Bool) → IsFrontOf texts (if b then texts else texts ++ q ∷ [])
    go true = ([], sym (append-nil texts))
    go false = (q ∷ [], refl)

-- The index of a name that was found or added is below the number of names.
pub with-inside : (names : List (List ℕ)) (q : List ℕ) (n : ℕ) → n ≡ name_index names q → n < length (with_name names q)
with-inside names q n e = let there = with-there names q in let at = with-index names q in omega (arith, e, there, at)
