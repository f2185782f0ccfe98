-- Looking up and inserting names, which `f` maps to their bytes.
use Rattle.std.proofs.Common.{◌≡◌, ℕ, List, [], ◌∷◌, ◌++◌, map, Bool, true, false, ◌||◌, cond, refl, ap, sym, ◌∙◌, Some, None}
use Rattle.std.proofs.lemmas.Slice.Eq.{bytes_eq-Decides}
use Rattle.std.specs.List.{list_any, position, position_or_len}
use Rattle.std.specs.Str.{bytes_eq}
use Rattle.redcode_text.specs.Tokens.{name_index, with_name}

module _ {T : Type 0} (f : T → List ℕ) where
  pub position-map : (q : List ℕ) (keys : List T) → position_or_len (λ x. bytes_eq q (f x)) keys ≡ name_index (map f keys) q
  position-map q [] = refl
  position-map q (x ∷ keys) = rw (position-map q keys) refl

  pub any-map : (q : List ℕ) (keys : List T) → list_any (λ x. bytes_eq q (f x)) keys ≡ list_any (bytes_eq q) (map f keys)
  any-map q [] = refl
  any-map q (x ∷ keys) = ap (λ b. bytes_eq q (f x) || b) (any-map q keys)

  snoc : (k : T) (keys : List T) → map f (keys ++ k ∷ []) ≡ map f keys ++ f k ∷ []
  snoc k [] = refl
  snoc k (x ∷ keys) = ap (λ l. f x ∷ l) (snoc k keys)

  kept : (b c : Bool) (k : T) (keys : List T) → b ≡ c → map f (cond b keys (keys ++ k ∷ [])) ≡ cond c (map f keys) (map f keys ++ f k ∷ [])
  kept true true k keys e = refl
  kept false false k keys e = snoc k keys
  kept true false k keys e = cc
  kept false true k keys e = cc

  pub insert-map : (k : T) (keys : List T) → map f (cond (list_any (λ x. bytes_eq (f k) (f x)) keys) keys (keys ++ k ∷ [])) ≡ with_name (map f keys) (f k)
  insert-map k keys = kept _ _ k keys (any-map (f k) keys)

  -- A name that is in the table already isn't added.
  pub present : (q : List ℕ) (keys : List T) → list_any (λ x. bytes_eq q (f x)) keys ≡ true → with_name (map f keys) q ≡ map f keys
  present q keys e = ap (λ b. cond b (map f keys) (map f keys ++ q ∷ [])) (sym (any-map q keys) ∙ e)

-- The index that `position` returns is the index of the name.
pub position-some : {T : Type 0} (p : T → Bool) (keys : List T) (i : ℕ) → Some i ≡ position p keys → i ≡ position_or_len p keys
position-some p keys i e = chosen _ _ e
  where
    chosen : (b : Bool) (n : ℕ) → Some i ≡ cond b (Some n) None → i ≡ n
    chosen true n e = cc
    chosen false n e = cc

pub same-itself : (q : List ℕ) → bytes_eq q q ≡ true
same-itself q = (bytes_eq-Decides q q).1 refl
