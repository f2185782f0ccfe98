-- Any two starts are at least the minimum distance apart.
use Rattle.std.proofs.Common.{◌≡◌, refl, ℕ, zero, suc, ◌+◌, ◌-◌, ◌*◌, ◌%◌, ◌<◌, ◌≤◌, ◌≢◌, List, [], ◌∷◌, ◌⊎◌, inl, inr, length, get_or, add-one, arith, All}
use Rattle.std.proofs.Math.Nat.{mod-eq_of_lt, add-mod_left, mul-le-mul_right, suc-mul}
use Rattle.std.proofs.lemmas.Bool.{cases_lt, cases_eq}
use Rattle.std.proofs.lemmas.List.{length-set}
use Rattle.std.proofs.lemmas.List.Edits.{swapped_from_swap}
use Rattle.std.proofs.lemmas.List.Elements.{All-cons}
use Rattle.std.proofs.lemmas.List.Sorted.{All-permutation, length_permutation}
use Rattle.mars_cell.specs.Parameters.{Parameters, AreInRange}
use Rattle.mars_match.proofs.Ascending.{ascending_zero, permutation_ascending, rises_ascending, non_decreasing}
use Rattle.std.specs.List.Sorted.{IsNonDecreasing}
use Rattle.mars_match.proofs.Draws.{length-spread, length-draws, draws_below}
use Rattle.std.specs.List.{swap}
use Rattle.mars_match.specs.Placement.{drawn, forward_distance, AreApart, IsSpaced, exchanged, spread, draws, ascending, room_for, seed_after, starts_of}

-- The address `b` is at least `d` above `a`, and from `b` to `a` around the core of `m` cells it is at least `d`.
record IsGap (m d a b : ℕ) : Type 0 where
  up : a + d ≤ b
  round : b + d ≤ a + m

forward_distance_above : (m a b : ℕ) → a ≤ b → b < m → forward_distance m a b ≡ b - a
forward_distance_above m a b h k =
    let e : b + (m - a) ≡ m + (b - a) = omega arith in
    let small : b - a < m = omega arith in
    rw (e, add-mod_left m (b - a)) (mod-eq_of_lt small)

forward_distance_below : (m a b : ℕ) → b < a → a < m → forward_distance m a b ≡ b + (m - a)
forward_distance_below m a b h k = let small : b + (m - a) < m = omega arith in mod-eq_of_lt small

apart_from_gap : (m d a b : ℕ) → 1 ≤ d → b < m → IsGap m d a b → AreApart m d a b
apart_from_gap m d a b one inside gap =
    let above : forward_distance m a b ≡ b - a = forward_distance_above m a b (omega (arith, gap.up)) inside in
    let below : forward_distance m b a ≡ a + (m - b) = forward_distance_below m b a (omega (arith, gap.up)) inside in
    record { up = omega (arith, above, gap.up); down = omega (arith, below, gap.round) }

turned : (m d a b : ℕ) → AreApart m d a b → AreApart m d b a
turned m d a b apart = record { up = apart.down; down = apart.up }

-- ---- Before the exchanges

get_or-spread : (d k : ℕ) (xs : List ℕ) (i : ℕ) → i < length xs → get_or (spread d k xs) i 0 ≡ get_or xs i 0 + (k + i) * d
get_or-spread d k [] i h = absurd (omega (arith, h))
get_or-spread d k (x ∷ xs) zero h = let e : k + 0 ≡ k = omega arith in rw e refl
get_or-spread d k (x ∷ xs) (suc i) h = let e : k + 1 + i ≡ k + suc i = omega arith in rw (← e) (get_or-spread d (k + 1) xs i (omega (arith, h)))

-- The distances of the first `i + 1` warriors add up to at most those of the first `j` warriors.
one_further : (i j d : ℕ) → i < j → i * d + d ≤ j * d
one_further i j d h = let e : (i + 1) * d ≡ i * d + d = rw (add-one, suc-mul) refl in omega (arith, e, mul-le-mul_right {m = i + 1} {n = j} d (omega arith))

module _ (m d w : ℕ) (xs : List ℕ) (one : 1 ≤ d) (fits : w * d ≤ m) (many : length xs ≡ w) (up : IsNonDecreasing xs) (below : All (λ v. v < m - w * d + 1) xs) where
  start_at : (i : ℕ) → i < w → get_or (spread d 0 xs) i 0 ≡ get_or xs i 0 + i * d
  start_at i h = let e : 0 + i ≡ i = omega arith in rw e at (get_or-spread d 0 xs i (omega (arith, many)))

  inside : (i : ℕ) → i < w → get_or (spread d 0 xs) i 0 < m
  inside i h = omega (arith, start_at i h, below i 0 (omega (arith, many)), one_further i w d h)

  gap : (i j : ℕ) → i < j → j < w → IsGap m d (get_or (spread d 0 xs) i 0) (get_or (spread d 0 xs) j 0)
  gap i j h k =
      let here = start_at i (omega arith) in
      let there = start_at j k in
      record {
        up = omega (arith, here, there, up i j 0 (omega arith) (omega (arith, many)), one_further i j d h);
        round = omega (arith, here, there, below j 0 (omega (arith, many)), one_further j w d k);
      }

  pub spaced_in_order : IsSpaced m d (spread d 0 xs)
  spaced_in_order = record {
    inside = λ i h. inside i (omega (arith, h, many, length-spread d 0 xs));
    apart = λ i j differ h k.
        let i_in : i < w = omega (arith, h, many, length-spread d 0 xs) in
        let j_in : j < w = omega (arith, k, many, length-spread d 0 xs) in
        elim (cases_lt i j) [
          | inl before ↦ apart_from_gap m d _ _ one (inside j j_in) (gap i j before j_in)
          | inr behind ↦ turned m d _ _ (apart_from_gap m d _ _ one (inside i i_in) (gap j i (grind (arith, behind, differ)) i_in))
        ];
  }

-- ---- After the exchanges

-- The item at `k` after the exchange of `a` and `b` was at `j` before it.
abbrev IsMoved : ℕ → ℕ → ℕ → ℕ → Type 0
IsMoved a b k j = ((k ≡ a) × (j ≡ b)) ⊎ (((k ≡ b) × (j ≡ a)) ⊎ ((k ≢ a) × ((k ≢ b) × (j ≡ k))))

record IsFound (xs : List ℕ) (a b k : ℕ) : Type 0 where
  place : ℕ
  inside : place < length xs
  same : get_or (swap xs a b) k 0 ≡ get_or xs place 0
  moved : IsMoved a b k place

found : (xs : List ℕ) (a b k : ℕ) → a < length xs → b < length xs → k < length xs → IsFound xs a b k
found xs a b k ha hb hk =
    let swapped = swapped_from_swap xs (swap xs a b) a b 0 ha hb refl in
    elim (cases_eq k a) [
      | inl e ↦ record { place = b; inside = hb; same = rw e swapped.0; moved = inl (e, refl) }
      | inr not_a ↦ elim (cases_eq k b) [
        | inl e ↦ record { place = a; inside = ha; same = rw e swapped.1; moved = inr (inl (e, refl)) }
        | inr not_b ↦ record { place = k; inside = hk; same = swapped.2 k not_a not_b; moved = inr (inr (not_a, (not_b, refl))) }
      ]
    ]

still_differ : (a b i j p q : ℕ) → i ≢ j → IsMoved a b i p → IsMoved a b j q → p ≢ q
still_differ a b i j p q differ (inl x) (inl y) e = differ (cc)
still_differ a b i j p q differ (inl x) (inr (inl y)) e = differ (cc)
still_differ a b i j p q differ (inl x) (inr (inr y)) e = y.1.0 (cc)
still_differ a b i j p q differ (inr (inl x)) (inl y) e = differ (cc)
still_differ a b i j p q differ (inr (inl x)) (inr (inl y)) e = differ (cc)
still_differ a b i j p q differ (inr (inl x)) (inr (inr y)) e = y.0 (cc)
still_differ a b i j p q differ (inr (inr x)) (inl y) e = x.1.0 (cc)
still_differ a b i j p q differ (inr (inr x)) (inr (inl y)) e = x.0 (cc)
still_differ a b i j p q differ (inr (inr x)) (inr (inr y)) e = differ (cc)

length-swap : (xs : List ℕ) (a b : ℕ) → length (swap xs a b) ≡ length xs
length-swap [] a b = refl
length-swap (x ∷ xs) a b = simp length-set

spaced_swap : (m d a b : ℕ) (xs : List ℕ) → a < length xs → b < length xs → IsSpaced m d xs → IsSpaced m d (swap xs a b)
spaced_swap m d a b xs ha hb spaced = record {
  inside = λ i h. let f = found xs a b i ha hb (omega (arith, h, length-swap xs a b)) in rw f.same (spaced.inside f.place f.inside);
  apart = λ i j differ h k.
      let f = found xs a b i ha hb (omega (arith, h, length-swap xs a b)) in
      let g = found xs a b j ha hb (omega (arith, k, length-swap xs a b)) in
      rw (f.same, g.same) (spaced.apart f.place g.place (still_differ a b i j f.place g.place differ f.moved g.moved) f.inside g.inside);
}

pub spaced_exchanged : (m d n seed : ℕ) (xs : List ℕ) → n + 2 ≤ length xs ⊎ n ≡ 0 → IsSpaced m d xs → IsSpaced m d (exchanged n seed xs)
spaced_exchanged m d zero seed xs h spaced = spaced
spaced_exchanged m d (suc n) seed xs (inr e) spaced = absurd (omega (arith, e))
spaced_exchanged m d (suc n) seed xs (inl h) spaced =
    let j : 1 + drawn seed % (n + 2) < length xs = omega (arith, h) in
    spaced_exchanged m d n (drawn seed) (swap xs (n + 2) (1 + drawn seed % (n + 2))) (inl (omega (arith, h, length-swap xs (n + 2) (1 + drawn seed % (n + 2)))))
    (spaced_swap m d (n + 2) (1 + drawn seed % (n + 2)) xs (omega (arith, h)) j spaced)

-- ---- The starts

pub spaced_starts : (p : Parameters) (w seed : ℕ) → AreInRange p → 1 ≤ w → w * p.distance ≤ p.core_size → IsSpaced p.core_size p.distance (starts_of p w seed)
unfolding starts_of
spaced_starts p w seed ranges some fits =
    let room = room_for p w in
    let values = 0 ∷ ascending (draws room (w - 1) seed) in
    let many : length values ≡ w = omega (arith, length_permutation (draws room (w - 1) seed) (ascending (draws room (w - 1) seed)) (permutation_ascending (draws room (w - 1) seed)), length-draws room (w - 1) seed) in
    let up : IsNonDecreasing values = rw (ascending_zero (ascending (draws room (w - 1) seed))) at (non_decreasing (ascending (0 ∷ draws room (w - 1) seed)) (rises_ascending (0 ∷ draws room (w - 1) seed))) in
    let below : All (λ v. v < room) values = All-cons (λ v. v < room) 0 _ (omega arith) (All-permutation (λ v. v < room) _ _ (permutation_ascending (draws room (w - 1) seed)) (draws_below room (w - 1) seed (omega arith))) in
    let one : 1 ≤ p.distance = omega (arith, ranges.length_least, ranges.distance_least) in
    spaced_exchanged p.core_size p.distance (w - 2) (seed_after (w - 1) seed) (spread p.distance 0 values)
    (elim (cases_lt 1 w) [
      | inl h ↦ inl (omega (arith, h, many, length-spread p.distance 0 values))
      | inr h ↦ inr (omega (arith, h))
    ])
    (spaced_in_order p.core_size p.distance w values one fits many up below)
