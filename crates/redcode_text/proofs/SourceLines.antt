-- The lines of a source, one at a time, and its first `;redcode`.
use Rattle.std.proofs.Common.{◌≡◌, ℕ, suc, ◌+◌, ◌-◌, ◌<◌, ◌≤◌, List, [], ◌∷◌, ◌++◌, length, drop, take, map, Bool, true, false, not, ◌==◌, cond, nat_eq, refl, ap, sym, ◌∙◌, arith, length-drop, drop-drop}
use Rattle.std.proofs.lemmas.List.{take-map, take_rest, length-take-le}
use Rattle.std.specs.Char.{to_ascii_lowercase}
use Rattle.std.specs.List.{onto_first, prefix_len, starts_with}
use Rattle.std.specs.Str.{bytes_eq, str_eq_ignore_ascii_case, str_to_ascii_lowercase}
use Rattle.redcode_text.specs.Source.{lines_of, rows_from}

abbrev pub goes_on : ℕ → Bool
goes_on b = not (b == 10)

-- The first line and the lines after it, if the first byte isn't LF.
lines-after : (b : ℕ) (bs : List ℕ) → onto_first b (lines_of bs) ≡ (b ∷ take (prefix_len goes_on bs) bs) ∷ lines_of (drop (suc (prefix_len goes_on bs)) bs)
lines-after b [] = refl
lines-after b (c ∷ cs) = go (c == 10) (lines-after c cs)
  where
    go : (t : Bool) → onto_first c (lines_of cs) ≡ (c ∷ take (prefix_len goes_on cs) cs) ∷ lines_of (drop (suc (prefix_len goes_on cs)) cs)
        → onto_first b (elim t as (λ _. List (List ℕ)) [ true ↦ [] ∷ lines_of cs | false ↦ onto_first c (lines_of cs) ])
        ≡ (b ∷ take (cond (not t) (1 + prefix_len goes_on cs) 0) (c ∷ cs)) ∷ lines_of (drop (suc (cond (not t) (1 + prefix_len goes_on cs) 0)) (c ∷ cs))
    go true h = refl
    go false h = let e : 1 + prefix_len goes_on cs ≡ suc (prefix_len goes_on cs) = omega arith in rw e (ap (onto_first b) h)

-- The first line, and the lines after its LF.
pub lines-first : (bs : List ℕ) → 0 < length bs → lines_of bs ≡ take (prefix_len goes_on bs) bs ∷ lines_of (drop (suc (prefix_len goes_on bs)) bs)
lines-first [] some = absurd (omega arith)
lines-first (b ∷ bs) some = go (b == 10)
  where
    go : (t : Bool) → elim t as (λ _. List (List ℕ)) [ true ↦ [] ∷ lines_of bs | false ↦ onto_first b (lines_of bs) ]
        ≡ take (cond (not t) (1 + prefix_len goes_on bs) 0) (b ∷ bs) ∷ lines_of (drop (suc (cond (not t) (1 + prefix_len goes_on bs) 0)) (b ∷ bs))
    go true = refl
    go false = let e : 1 + prefix_len goes_on bs ≡ suc (prefix_len goes_on bs) = omega arith in rw e (lines-after b bs)

-- The next row, and the rows after it.
pub row-step : (source : List ℕ) (number at p : ℕ) → at < length source → p ≡ prefix_len goes_on (take (length source - at) (drop at source)) → p ≤ length (take (length source - at) (drop at source))
    → rows_from number at (lines_of (drop at source)) ≡ record { number = number; at = at; bytes = take (at + p - at) (drop at source) } ∷ rows_from (number + 1) (at + p + 1) (lines_of (drop (at + p + 1) source))
row-step source number at p h e within =
    let l = drop at source in
    let some : 0 < length l = omega (arith, length-drop at source) in
    let is : prefix_len goes_on l ≡ p = sym (e ∙ ap (prefix_len goes_on) (take_rest source at)) in
    let len : length (take p l) ≡ p = length-take-le p l (simp take_rest at within) in
    let same : p ≡ at + p - at = omega arith in
    let next : at + suc p ≡ at + p + 1 = omega arith in
    ap (rows_from number at) (lines-first l some ∙ ap (λ k. take k l ∷ lines_of (drop (suc k) l)) is)
    ∙ (λ i. record { number = number; at = at; bytes = take p l } ∷ rows_from (number + 1) (at + len i + 1) (lines_of (drop (suc p) l)))
    ∙ (λ i. record { number = number; at = at; bytes = take (same i) l } ∷ rows_from (number + 1) (at + p + 1) (lines_of (drop-drop (suc p) at source i)))
    ∙ ap (λ n. record { number = number; at = at; bytes = take (at + p - at) l } ∷ rows_from (number + 1) (at + p + 1) (lines_of (drop n source))) next

-- Mapping a list to which one item was appended.
pub map-snoc : {A B : Type 0} (f : A → B) (xs : List A) (x : A) (rest : List B) → map f (xs ++ x ∷ []) ++ rest ≡ map f xs ++ f x ∷ rest
map-snoc f [] x rest = refl
map-snoc f (y ∷ xs) x rest = ap (λ l. f y ∷ l) (map-snoc f xs x rest)

-- ---- Directives

pub starts-word : (text directive : List ℕ) → str_to_ascii_lowercase directive ≡ directive
    → str_eq_ignore_ascii_case directive (take (length directive) text) ≡ starts_with nat_eq (str_to_ascii_lowercase text) directive
starts-word text directive low = λ i. bytes_eq (low i) (sym (take-map to_ascii_lowercase (length directive) text) i)
