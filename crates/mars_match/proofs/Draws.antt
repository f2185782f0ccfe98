-- Draws and exchanges, one after another.
use Rattle.std.proofs.Common.{◌≡◌, refl, ℕ, zero, suc, ◌+◌, ◌-◌, ◌*◌, ◌%◌, ◌<◌, ◌≤◌, List, [], ◌∷◌, ◌++◌, length, get_or, take, drop, set, arith, append_assoc, All}
use Rattle.std.proofs.lemmas.List.{take_more_set, drop_more, drop-set-lt}
use Rattle.std.proofs.lemmas.List.Elements.{All-nil, All-cons, All-tail}
use Rattle.std.specs.List.{swap}
use Rattle.mars_match.specs.Placement.{drawn, draws, seed_after, spread, exchanged}

pub seed_after_more : (n i seed : ℕ) → i < n → seed_after (n - (i + 1)) (drawn seed) ≡ seed_after (n - i) seed
seed_after_more n i seed h = let e : n - i ≡ suc (n - (i + 1)) = omega arith in rw e refl

pub seed_after-add : (a b seed : ℕ) → seed_after (a + b) seed ≡ seed_after b (seed_after a seed)
seed_after-add zero b seed = let e : zero + b ≡ b = omega arith in rw e refl
seed_after-add (suc a) b seed = let e : suc a + b ≡ suc (a + b) = omega arith in rw e (seed_after-add a b (drawn seed))

-- One more value is drawn.
pub draws_more : (room : ℕ) (xs : List ℕ) (i seed : ℕ) → i < length xs → take (i + 1) (set xs i (drawn seed % room)) ++ draws room (length xs - (i + 1)) (drawn seed) ≡ take i xs ++ draws room (length xs - i) seed
draws_more room xs i seed h =
    let e : length xs - i ≡ suc (length xs - (i + 1)) = omega arith in
    rw (take_more_set xs i (drawn seed % room) h, append_assoc, e) refl

pub draws_below : (room n seed : ℕ) → 1 ≤ room → All (λ v. v < room) (draws room n seed)
draws_below room zero seed h = All-nil (λ v. v < room)
draws_below room (suc n) seed h = All-cons (λ v. v < room) (drawn seed % room) (draws room n (drawn seed)) (omega arith) (draws_below room n (drawn seed) h)

pub length-spread : (distance i : ℕ) (xs : List ℕ) → length (spread distance i xs) ≡ length xs
length-spread distance i [] = refl
length-spread distance i (x ∷ xs) = rw (length-spread distance (i + 1) xs) refl

pub length-draws : (room n seed : ℕ) → length (draws room n seed) ≡ n
length-draws room zero seed = refl
length-draws room (suc n) seed = rw (length-draws room n (drawn seed)) refl

-- One more start gets its distance.
pub spread_more : (distance : ℕ) (xs : List ℕ) (i y : ℕ) → i < length xs → y ≡ get_or xs i 0 + i * distance →
    take (i + 1) (set xs i y) ++ spread distance (i + 1) (drop (i + 1) (set xs i y)) ≡ take i xs ++ spread distance i (drop i xs)
spread_more distance xs i y h e =
    let left : i < i + 1 = omega arith in
    rw (take_more_set xs i y h, append_assoc, drop-set-lt (i + 1) xs i y left, drop_more xs i 0 h, e) refl

pub below_more : (P : ℕ → Type 0) (xs : List ℕ) (i y : ℕ) → i < length xs → All P (drop i xs) → All P (drop (i + 1) (set xs i y))
below_more P xs i y h all =
    let left : i < i + 1 = omega arith in
    rw (drop-set-lt (i + 1) xs i y left) (All-tail P (get_or xs i 0) (drop (i + 1) xs) (rw (drop_more xs i 0 h) at all))

exchanged_step : (n seed : ℕ) (xs : List ℕ) → exchanged (suc n) seed xs ≡ exchanged n (drawn seed) (swap xs (n + 2) (1 + drawn seed % (n + 2)))
exchanged_step n seed xs = refl

-- One more exchange.
pub exchanged_more : (i seed : ℕ) (xs ys : List ℕ) → 2 < i → ys ≡ swap xs (i - 1) (1 + drawn seed % (i - 1)) → exchanged (i - 1 - 2) (drawn seed) ys ≡ exchanged (i - 2) seed xs
exchanged_more i seed xs ys h e =
    let n : i - 2 ≡ suc (i - 1 - 2) = omega arith in
    let k : i - 1 - 2 + 2 ≡ i - 1 = omega arith in
    rw (e, n, exchanged_step, k) refl

pub seed_after_down : (i seed : ℕ) → 2 < i → seed_after (i - 1 - 2) (drawn seed) ≡ seed_after (i - 2) seed
seed_after_down i seed h = let n : i - 2 ≡ suc (i - 1 - 2) = omega arith in rw n refl
