-- EQU names are found in the map in which they are stored, inserted into it, and extended by lines.
use Rattle.std.proofs.Common.{◌≡◌, ◌∙◌, sym, ℕ, List, [], ◌∷◌, ◌++◌, ap, Option, None, Some, option_map, map, Bool, true, false, cond, nat_eq, refl}
use Rattle.std.specs.Map.{lookup}
use Rattle.indexmap.specs.IndexMap.{insert_entry}
use Rattle.redcode_text.specs.declared.token.Token.{Token}
use Rattle.redcode_text.specs.Equates.{Equate, equate_lines}
use Rattle.redcode_text.specs.Lines.{with_line}

module _ {T : Type 0} (f : T → List (List Token)) where
  abbrev pub equates : List (ℕ × T) → List Equate
  equates es = map (λ e. record { name = e.0; lines = f e.1 }) es

  first : (b : Bool) (n : ℕ) (e : ℕ × T) (es : List (ℕ × T)) → option_map f (lookup (nat_eq n) es) ≡ equate_lines (equates es) n
      → option_map f (cond b (Some e.1) (lookup (nat_eq n) es)) ≡ elim b as (λ _. Option (List (List Token))) [ true ↦ Some (f e.1) | false ↦ equate_lines (equates es) n ]
  first true n e es rest = refl
  first false n e es rest = rest

  pub lookup-equate : (n : ℕ) (es : List (ℕ × T)) → option_map f (lookup (nat_eq n) es) ≡ equate_lines (map (λ e. record { name = e.0; lines = f e.1 }) es) n
  lookup-equate n [] = refl
  lookup-equate n (e ∷ es) = first (nat_eq n e.0) n e es (lookup-equate n es)

  inserted : (b : Bool) (k : ℕ) (v : T) (e : ℕ × T) (es more : List (ℕ × T)) → elim b as (λ _. Option (List (List Token))) [ true ↦ Some (f e.1) | false ↦ equate_lines (equates es) k ] ≡ None
      → (equate_lines (equates es) k ≡ None → equates more ≡ equates es ++ record { name = k; lines = f v } ∷ [])
      → equates (cond b ((e.0, v) ∷ es) (e ∷ more)) ≡ record { name = e.0; lines = f e.1 } ∷ (equates es ++ record { name = k; lines = f v } ∷ [])
  inserted true k v e es more none rest = cc
  inserted false k v e es more none rest = ap (λ l. record { name = e.0; lines = f e.1 } ∷ l) (rest none)

  -- Inserting a new EQU name with its lines appends the name and the lines.
  pub insert-equate : (k : ℕ) (v : T) (es : List (ℕ × T)) → equate_lines (equates es) k ≡ None → equates (insert_entry nat_eq es k v) ≡ equates es ++ record { name = k; lines = f v } ∷ []
  insert-equate k v [] none = refl
  insert-equate k v (e ∷ es) none = inserted (nat_eq k e.0) k v e es (insert_entry nat_eq es k v) none (insert-equate k v es)

-- A line is added to the definition of the last EQU name.
pub with-last : (rest : List Equate) (e : Equate) (ts : List Token) → with_line (rest ++ e ∷ []) ts ≡ rest ++ record { name = e.name; lines = e.lines ++ ts ∷ [] } ∷ []
with-last [] e ts = refl
with-last (x ∷ []) e ts = refl
with-last (x ∷ y ∷ rest) e ts = ap (λ l. x ∷ l) (with-last (y ∷ rest) e ts)

pub map-last : {A B : Type 0} (f : A → B) (xs : List A) (x : A) → map f (xs ++ x ∷ []) ≡ map f xs ++ f x ∷ []
map-last f [] x = refl
map-last f (y ∷ xs) x = ap (λ l. f y ∷ l) (map-last f xs x)

-- Removing the last EQU name and inserting it with one more line adds the line to its definition.
pub put-back : {T : Type 0} (f : T → List (List Token)) (k : ℕ) (v w : T) (old rest new : List (ℕ × T)) (ts : List Token) → old ≡ rest ++ (k, v) ∷ [] → lookup (nat_eq k) rest ≡ None
    → new ≡ insert_entry nat_eq rest k w → f w ≡ f v ++ ts ∷ [] → with_line (equates f old) ts ≡ equates f new
put-back {T} f k v w old rest new ts taken absent put more =
    let none : equate_lines (equates f rest) k ≡ None = sym (lookup-equate f k rest) ∙ ap (option_map f) absent in
    let entry : ℕ × T → Equate = λ e. record { name = e.0; lines = f e.1 } in
    ap (λ es. with_line (equates f es) ts) taken
    ∙ ap (λ l. with_line l ts) (map-last entry rest (k, v))
    ∙ with-last (equates f rest) (record { name = k; lines = f v }) ts
    ∙ (λ i. equates f rest ++ record { name = k; lines = sym more i } ∷ [])
    ∙ sym (insert-equate f k w rest none)
    ∙ ap (equates f) (sym put)
