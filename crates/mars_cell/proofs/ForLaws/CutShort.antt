-- The effect of several writes, one after the other.
use Rattle.std.proofs.Common.{◌≡◌, refl, ℕ, ◌+◌, ◌<◌, List, [], ◌∷◌, ◌++◌, Option, length, take, drop, get_or, sym, ap, ◌∙◌, arith, length-append, take-append-drop, append-nil}
use Rattle.std.proofs.Math.Seq.{take-append-add}
use Rattle.std.proofs.lemmas.List.{take-append-le, drop_more, take_more}
use Rattle.std.proofs.lemmas.Grind.{flat_map-append}
use Rattle.std.proofs.KnownBytes.{Appends-trans}
use Rattle.std.specs.List.{flat_map}
use Rattle.std.specs.Io.KnownBytes.{Appends}
use Rattle.mars_cell.specs.Output.{CutShort}

-- If a proper prefix of `x` was written, a proper prefix of `x ++ y` was written.
pub CutShort-front : (a b : Option (List ℕ)) (x y : List ℕ) → CutShort a b x → CutShort a b (x ++ y)
CutShort-front a b x y cut =
    let n = cut.0 in
    let same : take n (x ++ y) ≡ take n x = take-append-le n x y (omega (arith, cut.1)) in
    (n, (omega (arith, cut.1, length-append x y)), rw same cut.2)

-- If `x` was written and then a proper prefix of `y`, a proper prefix of `x ++ y` was written.
pub CutShort-back : (a b c : Option (List ℕ)) (x y : List ℕ) → Appends a b x → CutShort b c y → CutShort a c (x ++ y)
CutShort-back a b c x y before cut =
    let n = cut.0 in
    let same : take (length x + n) (x ++ y) ≡ x ++ take n y = take-append-add x y n in
    (length x + n, (omega (arith, cut.1, length-append x y)), rw same (Appends-trans a b c x (take n y) before cut.2))

-- If `x` was written and then a proper prefix of `y`, a proper prefix of `x ++ (y ++ z)` was written.
pub CutShort-after : (a b c : Option (List ℕ)) (x y z : List ℕ) → Appends a b x → CutShort b c y → CutShort a c (x ++ (y ++ z))
CutShort-after a b c x y z before cut = CutShort-back a b c x (y ++ z) before (CutShort-front b c y z cut)

module _ {X : Type 0} (f : X → List ℕ) (xs : List X) (i : ℕ) (d : X) (inside : i < length xs) where
  -- The texts of the first `i + 1` elements are the texts of the first `i`, followed by the text of the next one.
  pub flat_map-one_more : flat_map f (take (i + 1) xs) ≡ flat_map f (take i xs) ++ f (get_or xs i d)
  flat_map-one_more = rw (take_more xs i d inside, flat_map-append f (take i xs) (get_or xs i d ∷ [])) (ap (λ l. flat_map f (take i xs) ++ l) (append-nil (f (get_or xs i d))))

  -- The texts of a list are the texts before an element, the text of the element, and the texts after it.
  pub flat_map-around : flat_map f xs ≡ flat_map f (take i xs) ++ (f (get_or xs i d) ++ flat_map f (drop (i + 1) xs))
  flat_map-around = ap (flat_map f) (sym (take-append-drop i xs)) ∙ flat_map-append f (take i xs) (drop i xs) ∙ ap (λ l. flat_map f (take i xs) ++ l) (rw (drop_more xs i d inside) refl)

  -- If the writer failed in the text of one element, a proper prefix of all texts was written.
  pub flat_map_cut : (a b c : Option (List ℕ)) (text : List ℕ) → CutShort b c text → Appends a b (flat_map f (take i xs)) → text ≡ f (get_or xs i d) → CutShort a c (flat_map f xs)
  flat_map_cut a b c text cut before e =
      rw flat_map-around (CutShort-after a b c (flat_map f (take i xs)) (f (get_or xs i d)) (flat_map f (drop (i + 1) xs)) before (rw e at cut))
