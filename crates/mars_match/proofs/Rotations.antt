-- Rotated lists.
use Rattle.std.proofs.Common.{◌≡◌, ◌∙◌, ap, sym, ℕ, ◌+◌, ◌-◌, ◌<◌, ◌≤◌, List, ◌++◌, length, take, drop, get_or, arith}
use Rattle.std.proofs.Math.Seq.{take-append-add}
use Rattle.std.proofs.lemmas.List.{length-drop, length-take-le, take-take, length-append, drop-append-le, get_or-drop, get_or-take, get_or_append_left, get_or-append_right}
use Rattle.mars_match.specs.Battles.{rotated}
use Rattle.mars_match.specs.Code.Lineups.{GoesOn}

module _ {X : Type 0} where
  -- A slice of a list that repeats its first items at the end is a rotation.
  pub rotated_part : (count first : ℕ) (xs : List X) → GoesOn count xs → first < count → take (first + count - first) (drop first xs) ≡ rotated first (take count xs)
  rotated_part count first xs on h =
      let ws = take count xs in
      let again = take (count - 1) xs in
      let many : length ws ≡ count = length-take-le count xs (omega (arith, on.many)) in
      let n : first + count - first ≡ length (drop first ws) + first = omega (arith, length-drop first ws, many) in
      let same : take first again ≡ take first ws = take-take first (count - 1) xs (omega arith) ∙ sym (take-take first count xs (omega arith)) in
      rw n (ap (λ l. take (length (drop first ws) + first) (drop first l)) on.again ∙ ap (take (length (drop first ws) + first)) (drop-append-le first ws again (omega (arith, many)))
      ∙ take-append-add (drop first ws) again first ∙ ap (λ l. drop first ws ++ l) same)

  pub length-rotated : (n : ℕ) (xs : List X) → n ≤ length xs → length (rotated n xs) ≡ length xs
  length-rotated n xs h = omega (arith, length-append (drop n xs) (take n xs), length-drop n xs, length-take-le n xs h)

  -- An item from number `n` on.
  pub get_or-rotated_early : (n i : ℕ) (xs : List X) (d : X) → n ≤ length xs → n + i < length xs → get_or (rotated n xs) i d ≡ get_or xs (n + i) d
  get_or-rotated_early n i xs d h k = get_or_append_left (drop n xs) (take n xs) d i (omega (arith, length-drop n xs)) ∙ get_or-drop n xs i d

  -- An item before number `n`.
  pub get_or-rotated_late : (n i : ℕ) (xs : List X) (d : X) → n ≤ length xs → length xs ≤ n + i → i < length xs → get_or (rotated n xs) i d ≡ get_or xs (n + i - length xs) d
  get_or-rotated_late n i xs d h k l =
      let place : i - (length xs - n) ≡ n + i - length xs = omega arith in
      get_or-append_right (drop n xs) (take n xs) (length xs - n) i d (length-drop n xs) (omega arith)
      ∙ get_or-take n xs (i - (length xs - n)) d (omega arith) ∙ ap (λ j. get_or xs j d) place
