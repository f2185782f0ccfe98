-- A listing, warrior by warrior.
use Rattle.std.proofs.Common.{◌≡◌, ◌∙◌, ℕ, zero, suc, ◌+◌, ◌<◌, List, [], ◌∷◌, ◌++◌, length, take, get_or, ap, sym, arith, append-nil, append_assoc, add-one}
use Rattle.mars_cell.specs.Warriors.{WarriorValue}
use Rattle.mars_app.specs.Contests.{listed, listing_from}

one_more : (m k i : ℕ) (ws : List WarriorValue) (d : WarriorValue) → i < length ws → listing_from m k (take (suc i) ws) ≡ listing_from m k (take i ws) ++ listed m (k + i) (get_or ws i d)
one_more m k i [] d h = absurd (omega (arith, h))
one_more m k zero (w ∷ ws) d h = let same : k ≡ k + zero = omega arith in append-nil (listed m k w) ∙ ap (λ n. listed m n w) same
one_more m k (suc i) (w ∷ ws) d h =
    let later : (k + 1) + i ≡ k + suc i = omega arith in
    ap (λ rest. listed m k w ++ rest)
    (one_more m (k + 1) i ws d (omega (arith, h)) ∙ ap (λ n. listing_from m (k + 1) (take i ws) ++ listed m n (get_or ws i d)) later)
    ∙ sym (append_assoc (listed m k w) (listing_from m (k + 1) (take i ws)) (listed m (k + suc i) (get_or ws i d)))

-- Adding one warrior to a listing adds its part at the end.
pub listing-one_more : (m k i : ℕ) (ws : List WarriorValue) (d : WarriorValue) → i < length ws → listing_from m k (take (i + 1) ws) ≡ listing_from m k (take i ws) ++ listed m (k + i) (get_or ws i d)
listing-one_more m k i ws d h = rw add-one (one_more m k i ws d h)

-- A listing consists of the part before a warrior, the warrior's own part, and the rest.
pub listing-around : (m k i : ℕ) (ws : List WarriorValue) (d : WarriorValue) → i < length ws → (rest : List ℕ) × (listing_from m k ws ≡ listing_from m k (take i ws) ++ (listed m (k + i) (get_or ws i d) ++ rest))
listing-around m k i [] d h = absurd (omega (arith, h))
listing-around m k zero (w ∷ ws) d h =
    let same : k ≡ k + zero = omega arith in
    (listing_from m (k + 1) ws, ap (λ n. listed m n w ++ listing_from m (k + 1) ws) same)
listing-around m k (suc i) (w ∷ ws) d h =
    let later : (k + 1) + i ≡ k + suc i = omega arith in
    let r = listing-around m (k + 1) i ws d (omega (arith, h)) in
    let before = listing_from m (k + 1) (take i ws) in (
      r.0,
      ap (λ l. listed m k w ++ l) (r.1 ∙ ap (λ n. before ++ (listed m n (get_or ws i d) ++ r.0)) later)
          ∙ sym (append_assoc (listed m k w) before (listed m (k + suc i) (get_or ws i d) ++ r.0)),
    )
