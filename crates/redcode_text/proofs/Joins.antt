-- The joins of a word, one at a time.
use Rattle.std.proofs.Common.{◌≡◌, ℕ, suc, ◌+◌, ◌-◌, ◌<◌, List, [], ◌∷◌, ◌++◌, length, drop, take, Bool, true, false, not, ◌==◌, ◌||◌, cond, Some, None, Ok, Err, refl, ap, sym, ◌∙◌, arith, add-one, drop-drop}
use Rattle.std.proofs.Math.Seq.{drop-cons}
use Rattle.std.specs.List.{onto_first, prefix_len, list_any}
use Rattle.redcode_text.specs.Results.{◌>>=◌}
use Rattle.redcode_text.specs.declared.fault.TextProblem.TheVariants.{BadToken}
use Rattle.redcode_text.specs.Tokens.{OpenLoop, round_of, round_or_bad, round_digits, parts_at_joins, join_counters, join_parts, joined}

-- The names of the joins of a text that begins with a join.
abbrev pub names_of : List ℕ → List (List ℕ)
names_of [] = []
names_of (b ∷ bs) = parts_at_joins bs

abbrev pub part_len : List ℕ → ℕ
part_len bs = prefix_len (λ b. not (b == 38)) bs

-- The parts of a word are the first part and the names after it.
pub parts-first : (bs : List ℕ) → parts_at_joins bs ≡ take (part_len bs) bs ∷ names_of (drop (part_len bs) bs)
parts-first [] = refl
parts-first (b ∷ bs) = go (b == 38) (parts-first bs)
  where
    go : (t : Bool) → parts_at_joins bs ≡ take (part_len bs) bs ∷ names_of (drop (part_len bs) bs)
        → elim t as (λ _. List (List ℕ)) [ true ↦ [] ∷ parts_at_joins bs | false ↦ onto_first b (parts_at_joins bs) ]
        ≡ take (cond (not t) (1 + part_len bs) 0) (b ∷ bs) ∷ names_of (drop (cond (not t) (1 + part_len bs) 0) (b ∷ bs))
    go true h = refl
    go false h =
        let e : 1 + part_len bs ≡ suc (part_len bs) = omega arith in
        rw e (ap (onto_first b) h)

-- The names at a join are its name and the names after it.
pub names-first : (bs : List ℕ) (i : ℕ) → i < length bs → names_of (drop i bs) ≡ take (part_len (drop (i + 1) bs)) (drop (i + 1) bs) ∷ names_of (drop (i + 1 + part_len (drop (i + 1) bs)) bs)
names-first bs i h =
    ap names_of (drop-cons bs i 0 h)
    ∙ ap parts_at_joins (ap (λ n. drop n bs) (sym (add-one i)))
    ∙ parts-first (drop (i + 1) bs)
    ∙ ap (λ l. take (part_len (drop (i + 1) bs)) (drop (i + 1) bs) ∷ names_of l) (drop-drop (part_len (drop (i + 1) bs)) (i + 1) bs)

-- A word with its joins replaced, in terms of its first part and the names after it.
pub joined-first : (loops : List OpenLoop) (bs : List ℕ) → joined loops bs ≡ join_counters loops (take (part_len bs) bs) (names_of (drop (part_len bs) bs))
joined-first loops bs = ap (join_parts loops) (parts-first bs)

-- The names at a join, with the length of the name that the code found.
names-found : (bs : List ℕ) (i p : ℕ) → i < length bs → p ≡ part_len (drop (i + 1) bs) → names_of (drop i bs) ≡ take (i + 1 + p - (i + 1)) (drop (i + 1) bs) ∷ names_of (drop (i + 1 + p) bs)
names-found bs i p h e =
    let q : part_len (drop (i + 1) bs) ≡ i + 1 + p - (i + 1) = omega (arith, e) in
    names-first bs i h ∙ (λ j. take (q j) (drop (i + 1) bs) ∷ names_of (drop (i + 1 + sym e j) bs))

pub join-ok : (loops : List OpenLoop) (front bs : List ℕ) (i p round : ℕ) → i < length bs → p ≡ part_len (drop (i + 1) bs)
    → Some round ≡ round_of loops (take (i + 1 + p - (i + 1)) (drop (i + 1) bs))
    → join_counters loops front (names_of (drop i bs)) ≡ join_counters loops (front ++ round_digits round) (names_of (drop (i + 1 + p) bs))
join-ok loops front bs i p round h e is =
    ap (join_counters loops front) (names-found bs i p h e)
    ∙ ap (λ o. round_or_bad o >>= λ n. join_counters loops (front ++ round_digits n) (names_of (drop (i + 1 + p) bs))) (sym is)

pub join-bad : (loops : List OpenLoop) (front bs : List ℕ) (i p : ℕ) → i < length bs → p ≡ part_len (drop (i + 1) bs)
    → None ≡ round_of loops (take (i + 1 + p - (i + 1)) (drop (i + 1) bs))
    → join_counters loops front (names_of (drop i bs)) ≡ Err BadToken
join-bad loops front bs i p h e is =
    ap (join_counters loops front) (names-found bs i p h e)
    ∙ ap (λ o. round_or_bad o >>= λ n. join_counters loops (front ++ round_digits n) (names_of (drop (i + 1 + p) bs))) (sym is)

-- A word without joins has one part.
parts-none : (bs : List ℕ) → list_any (λ b. b == 38) bs ≡ false → parts_at_joins bs ≡ bs ∷ []
parts-none [] e = refl
parts-none (b ∷ bs) e = go (b == 38) (parts-none bs) e
  where
    go : (t : Bool) → (list_any (λ b. b == 38) bs ≡ false → parts_at_joins bs ≡ bs ∷ []) → (t || list_any (λ b. b == 38) bs) ≡ false
        → elim t as (λ _. List (List ℕ)) [ true ↦ [] ∷ parts_at_joins bs | false ↦ onto_first b (parts_at_joins bs) ] ≡ (b ∷ bs) ∷ []
    go true h e = cc
    go false h e = ap (onto_first b) (h e)

pub joined-none : (loops : List OpenLoop) (bs : List ℕ) → list_any (λ b. b == 38) bs ≡ false → joined loops bs ≡ Ok bs
joined-none loops bs e = ap (join_parts loops) (parts-none bs e)
