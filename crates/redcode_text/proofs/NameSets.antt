-- A set of names to which names are added, and the labels of the lines that it represents.
use Rattle.std.proofs.Common.{not, map, ◌≡◌, ◌∙◌, ℕ, ◌+◌, ◌<◌, List, [], ◌∷◌, ◌++◌, length, take, get_or, Bool, true, false, ◌||◌, ◌==◌, cond, nat_eq, refl, ap, sym, append_assoc, arith}
use Rattle.std.proofs.lemmas.Bool.{eqb-true}
use Rattle.std.proofs.lemmas.List.{take_more}
use Rattle.std.proofs.lemmas.List.Folds.{list_any-append}
use Rattle.std.specs.List.{list_any}
use Rattle.indexmap.specs.IndexSet.{insert_key}
use Rattle.redcode_text.specs.declared.program.Line as line
use Rattle.redcode_text.specs.Views.{line_of}
use Rattle.redcode_text.specs.Lines.{Predefined, Reading, is_label, is_predefined, may_label}
use Rattle.redcode_text.specs.Code.Labels.{AreLabels, HasSame, has}

same-either : (n m : ℕ) → (n == m) ≡ (m == n)
same-either n m = grind arith

-- Looking up a name in the set is the defined test `has`.
pub found : (n : ℕ) (names : List ℕ) → list_any (nat_eq n) names ≡ has names n
found n [] = refl
found n (m ∷ names) = (λ i. same-either n m i || found n names i)

either-none : (a : Bool) → a ≡ (a || false)
either-none true = refl
either-none false = refl

either-true : (a : Bool) → true ≡ (a || true)
either-true true = refl
either-true false = refl

-- Adding a name that is in the set already changes nothing.
there : (n k : ℕ) (names : List ℕ) → list_any (nat_eq k) names ≡ true → has names n ≡ (has names n || ((k == n) || false))
there n k names is = go (k == n) refl
  where
    go : (t : Bool) → (k == n) ≡ t → has names n ≡ (has names n || (t || false))
    go true e = let same : k ≡ n = eqb-true k n e in sym (found n names) ∙ ap (λ m. list_any (nat_eq m) names) (sym same) ∙ is ∙ either-true (has names n)
    go false e = either-none (has names n)

pub inserted : (names : List ℕ) (k : ℕ) → HasSame (insert_key nat_eq names k) (names ++ k ∷ [])
inserted names k n = go (list_any (nat_eq k) names) refl
  where
    go : (t : Bool) → list_any (nat_eq k) names ≡ t → has (cond t names (names ++ k ∷ [])) n ≡ has (names ++ k ∷ []) n
    go true e = there n k names e ∙ sym (list_any-append (λ m. m == n) names (k ∷ []))
    go false e = refl

-- Two sets with the same names still have the same names if one name is added to both.
more : (names others : List ℕ) (k : ℕ) → HasSame names others → HasSame (names ++ k ∷ []) (others ++ k ∷ [])
more names others k h n = list_any-append (λ m. m == n) names (k ∷ []) ∙ ap (λ b. b || has (k ∷ []) n) (h n) ∙ sym (list_any-append (λ m. m == n) others (k ∷ []))

pub name-more : (new names others grown : List ℕ) (k : ℕ) → grown ≡ others ++ k ∷ [] → HasSame new (names ++ k ∷ []) → HasSame names others → HasSame new grown
name-more new names others grown k e is h n = is n ∙ more names others k h n ∙ ap (λ l. has l n) (sym e)

pub one-more : (old names keys new : List ℕ) (i d : ℕ) → i < length names → HasSame keys (old ++ take i names) → new ≡ insert_key nat_eq keys (get_or names i d) → HasSame new (old ++ take (i + 1) names)
one-more old names keys new i d inside h e n =
    ap (λ l. has l n) e
    ∙ inserted keys (get_or names i d) n
    ∙ more keys (old ++ take i names) (get_or names i d) h n
    ∙ ap (λ l. has l n) (append_assoc old (take i names) (get_or names i d ∷ []) ∙ ap (λ l. old ++ l) (sym (take_more names i d inside)))

any-map : {X Y : Type 0} (p : Y → Bool) (f : X → Y) (xs : List X) → list_any (λ x. p (f x)) xs ≡ list_any p (map f xs)
any-map p f [] = refl
any-map p f (x ∷ xs) = ap (λ b. p (f x) || b) (any-map p f xs)

-- A name is in the set of labels exactly if it is a label of the lines, as `is_label` defines it.
pub label_known : (names : List ℕ) (lines : List line.Line) (n : ℕ) → AreLabels (λ l. l.labels.items) names lines → has names n ≡ list_any (λ l. list_any (λ m. m == n) l.labels) (map line_of lines)
label_known names lines n known = known n ∙ any-map (λ l. list_any (λ m. m == n) l.labels) line_of lines

-- Whether a name may be a label is the same for two sets with the same names.
pub may-label : (ps : Predefined) (st : Reading) (names labels : List ℕ) (n : ℕ) → HasSame names labels → may_label ps st names n ≡ may_label ps st labels n
may-label ps st names labels n same = ap (λ b. not (is_label st n || is_predefined ps st n || b)) (same n)
