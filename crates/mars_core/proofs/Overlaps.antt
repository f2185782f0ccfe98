-- Cells with the same address, by the distances between starting positions. The definition states that an address
-- occurs twice in the list of all loaded addresses; the code compares distances. The lemmas are about residues, by
-- cases on which of two residues is greater. `omega` proves each case, but uses an implication only if its premise
-- follows, so `cases_lt` splits first.
use Rattle.std.proofs.Common.{◌≡◌, ◌≢◌, ℕ, zero, suc, ◌+◌, ◌-◌, ◌<◌, ◌≤◌, ◌%◌, Bool, true, false, List, [], ◌∷◌, ◌++◌, length, drop, get_or, refl, ap, sym, ◌∙◌, arith, add-one, inl, inr}
use Rattle.std.specs.Prelude.{◌||◌, ◌⊎◌, ◌==◌, nat_lt}
use Rattle.std.specs.List.{list_any}
use Rattle.std.proofs.Math.Nat.{suc-mod, mod-add-mod, add-mod_right, mod-eq_of_lt}
use Rattle.std.proofs.lemmas.Bool.{cases_eq, cases_lt}
use Rattle.std.proofs.lemmas.Bool.Decides.{nat_tests}
use Rattle.std.proofs.lemmas.List.Folds.{list_any-append}
use Rattle.std.proofs.lemmas.List.{at_drop_more, drop_all}
use Rattle.mars_cell.specs.Warriors.{WarriorValue}
use Rattle.mars_core.specs.Start.{addresses_from, loaded_addresses, is_in, has_duplicate, overlap}
use Rattle.mars_core.specs.Code.Distances.{distance, share}

-- The address `b` is `d` cells after the address `a`.
record IsAway (m a b d : ℕ) : Type 0 where
  behind : b < a → d + a ≡ b + m
  ahead : a ≤ b → d + a ≡ b

less_more : (a b : ℕ) → nat_lt a b ≡ nat_lt (a + 1) (suc b)
less_more a b = grind (arith, nat_tests)

module _ (m : ℕ) (positive : 1 ≤ m) where
  below : (n : ℕ) → n % m < m
  below n = omega arith

  reduced : (n : ℕ) → n < m → n % m ≡ n
  reduced n h = mod-eq_of_lt h

  wrapped : (a b : ℕ) → a < m → b < m → IsAway m a b ((b + (m - a)) % m)
  wrapped a b h k = record {
    behind = λ l. (let small = reduced (b + (m - a)) (omega arith) in omega (arith, small));
    ahead = λ l. (
        let more : b + (m - a) ≡ (b - a) + m = omega arith in
        let small : ((b - a) + m) % m ≡ b - a = add-mod_right (b - a) m ∙ reduced (b - a) (omega arith) in
        let is : (b + (m - a)) % m ≡ b - a = ap (λ n. n % m) more ∙ small in
        omega arith
        );
  }

  away : (s t : ℕ) → IsAway m (s % m) (t % m) (distance m s t)
  unfolding distance
  away s t = rw (← mod-add-mod t m (m - s % m)) (wrapped (s % m) (t % m) (below s) (below t))

  -- The residue of the next address is one more, or zero at the end of the core.
  next_is : (s : ℕ) → ((s + 1) % m ≡ s % m + 1) ⊎ (((s + 1) % m ≡ 0) × (s % m + 1 ≡ m))
  next_is s =
      let step : (s + 1) % m ≡ suc (s % m) % m = rw add-one (suc-mod s m) in
      elim (cases_eq (suc (s % m)) m) [
        | inl e ↦ (
            let whole : m % m ≡ 0 = ap (λ n. n % m) (omega arith) ∙ add-mod_right 0 m ∙ reduced 0 (omega arith) in
            inr (step ∙ ap (λ n. n % m) e ∙ whole, omega arith)
            )
        | inr n ↦ inl (step ∙ reduced (suc (s % m)) (omega (arith, below s)) ∙ omega arith)
      ]

  -- From the next address, the distance is one less.
  one_nearer : (s t : ℕ) → s % m ≢ t % m → distance m s t ≡ distance m (s + 1) t + 1
  one_nearer s t n =
      let far = away s t in
      let near = away (s + 1) t in
      elim (next_is s) [
        | inl e ↦ (
            let a = rw e at near in
            elim (cases_lt (t % m) (s % m)) [
              | inl l ↦ omega (arith, far.behind l, a.behind (omega arith), below s, below t)
              | inr g ↦ omega (arith, far.ahead g, a.ahead (omega arith), below s, below t)
            ]
            )
        | inr e ↦ (
            let a = rw e.0 at near in
            let l : t % m < s % m = omega (arith, e.1, below t) in
            omega (arith, far.behind l, a.ahead (omega arith), e.1)
            )
      ]

  none_away : (s t : ℕ) → s % m ≡ t % m → distance m s t ≡ 0
  none_away s t e = omega (arith, (away s t).ahead (omega arith))

  -- From the next address back to an address, the distance is the size of the core less one.
  round : (s : ℕ) → distance m (s + 1) (s % m) + 1 ≡ m
  round s =
      let same : (s % m) % m ≡ s % m = reduced (s % m) (below s) in
      let near = rw same at (away (s + 1) (s % m)) in
      elim (next_is s) [
        | inl e ↦ (let a = rw e at near in omega (arith, a.behind (omega arith), below s))
        | inr e ↦ (let a = rw e.0 at near in omega (arith, a.ahead (omega arith), below s, e.1))
      ]

  -- The distances from one address to another and back add up to the size of the core.
  both_ways : (s t : ℕ) → s % m ≢ t % m → distance m s t + distance m t s ≡ m
  both_ways s t n =
      let there = away s t in
      let back = away t s in
      elim (cases_lt (t % m) (s % m)) [
        | inl l ↦ omega (arith, there.behind l, back.ahead (omega arith), below s, below t)
        | inr g ↦ omega (arith, there.ahead g, back.behind (omega arith), below s, below t)
      ]

  to_reduced : (s t : ℕ) → distance m s (t % m) ≡ distance m s t
  to_reduced s t =
      let same : (t % m) % m ≡ t % m = reduced (t % m) (below t) in
      let near = rw same at (away s (t % m)) in
      let far = away s t in
      elim (cases_lt (t % m) (s % m)) [
        | inl l ↦ omega (arith, near.behind l, far.behind l)
        | inr g ↦ omega (arith, near.ahead g, far.ahead g)
      ]

  -- An address is in a range if its distance from the start is less than the length of the range.
  is_in_row : (n s x : ℕ) → x < m → is_in (addresses_from m s n) x ≡ nat_lt (distance m s x) n
  is_in_row zero s x h = grind (arith, nat_tests)
  is_in_row (suc n) s x h =
      let ih = is_in_row n (s + 1) x h in
      let small : x % m ≡ x = reduced x h in
      elim (cases_eq x (s % m)) [
        | inl e ↦ (
            let here : (x == (s % m)) ≡ true = grind (arith, nat_tests) in
            let none = none_away s x (omega arith) in
            rw (here, none) (grind (arith, nat_tests))
            )
        | inr k ↦ (
            let other : (x == (s % m)) ≡ false = grind (arith, nat_tests) in
            let nearer = one_nearer s x (λ e. k (omega arith)) in
            rw (other, nearer) (ih ∙ less_more (distance m (s + 1) x) n)
            )
      ]

  -- A range contains an address twice if it is longer than the core.
  pub row_has_duplicate : (n s : ℕ) → has_duplicate (addresses_from m s n) ≡ nat_lt m n
  row_has_duplicate zero s = grind (arith, nat_tests)
  row_has_duplicate (suc n) s =
      let back = round s in
      rw (is_in_row n (s + 1) (s % m) (below s), row_has_duplicate n (s + 1))
      (elim (cases_lt m (suc n)) [
        | inl l ↦ grind (arith, nat_tests)
        | inr g ↦ grind (arith, nat_tests)
      ])

  -- Two ranges have an address in common if one starts within the other.
  rows_share_from : (n k s t : ℕ) → 1 ≤ k → share (addresses_from m s (suc n)) (addresses_from m t k) ≡ (nat_lt (distance m s t) (suc n) || nat_lt (distance m t s) k)
  unfolding share
  rows_share_from zero k s t h = rw (is_in_row k t (s % m) (below s), to_reduced t s) (
      elim (cases_eq (s % m) (t % m)) [
        | inl e ↦ (let one = none_away s t e in let other = none_away t s (sym e) in grind (arith, nat_tests))
        | inr n ↦ (let far = one_nearer s t n in grind (arith, nat_tests))
      ]
      )
  rows_share_from (suc n) k s t h = rw (is_in_row k t (s % m) (below s), to_reduced t s, rows_share_from n k (s + 1) t h) (
      elim (cases_eq (s % m) (t % m)) [
        | inl e ↦ (let one = none_away s t e in let other = none_away t s (sym e) in grind (arith, nat_tests))
        | inr f ↦ (
            let nearer = one_nearer s t f in
            let round = both_ways s t f in
            elim (cases_eq ((s + 1) % m) (t % m)) [
              | inl e ↦ (let one = none_away (s + 1) t e in grind (arith, nat_tests))
              | inr o ↦ (let again = both_ways (s + 1) t o in grind (arith, nat_tests))
            ]
            )
      ]
      )

  pub rows_share : (n k s t : ℕ) → 1 ≤ n → 1 ≤ k → share (addresses_from m s n) (addresses_from m t k) ≡ (nat_lt (distance m s t) n || nat_lt (distance m t s) k)
  rows_share zero k s t h l = absurd (omega arith)
  rows_share (suc n) k s t h l = rows_share_from n k s t l

-- `share` and `has_duplicate` of appended lists, by disjunctions in another order.
swap_or : (a b c d : Bool) → ((a || b) || (c || d)) ≡ ((a || c) || (b || d))
swap_or true b c d = refl
swap_or false true true d = refl
swap_or false true false d = refl
swap_or false false c d = refl

or_any : (p q : ℕ → Bool) (xs : List ℕ) → list_any (λ x. p x || q x) xs ≡ (list_any p xs || list_any q xs)
or_any p q [] = refl
or_any p q (x ∷ xs) = rw (or_any p q xs) (swap_or (p x) (q x) (list_any p xs) (list_any q xs))

any_same : (p q : ℕ → Bool) (xs : List ℕ) → ((x : ℕ) → p x ≡ q x) → list_any p xs ≡ list_any q xs
any_same p q [] h = refl
any_same p q (x ∷ xs) h = rw (h x, any_same p q xs h) refl

pub share-append : (xs ys zs : List ℕ) → share xs (ys ++ zs) ≡ (share xs ys || share xs zs)
unfolding share
share-append xs ys zs =
    any_same (λ x. is_in (ys ++ zs) x) (λ x. is_in ys x || is_in zs x) xs (λ x. list_any-append (λ y. x == y) ys zs)
    ∙ or_any (λ x. is_in ys x) (λ x. is_in zs x) xs

regrouped : (a b c d e : Bool) → ((a || b) || (c || d || e)) ≡ ((a || c) || (b || d) || e)
regrouped true b c d e = refl
regrouped false true true d e = refl
regrouped false true false d e = refl
regrouped false false c d e = refl

pub has_duplicate-append : (xs ys : List ℕ) → has_duplicate (xs ++ ys) ≡ (has_duplicate xs || share xs ys || has_duplicate ys)
unfolding share
has_duplicate-append [] ys = refl
has_duplicate-append (x ∷ xs) ys =
    rw (has_duplicate-append xs ys, list_any-append (λ y. x == y) xs ys)
    (regrouped (is_in xs x) (is_in ys x) (has_duplicate xs) (share xs ys) (has_duplicate ys))

-- A row has an address in common with some warriors exactly if it has one with the first or with the others.
pub share_more : (m : ℕ) (row : List ℕ) (w : WarriorValue) (warriors : List WarriorValue) (s : ℕ) (starts : List ℕ)
    → share row (loaded_addresses m (w ∷ warriors) (s ∷ starts)) ≡ (share row (addresses_from m s (length w.cells)) || share row (loaded_addresses m warriors starts))
share_more m row w warriors s starts = share-append row (addresses_from m s (length w.cells)) (loaded_addresses m warriors starts)

pub overlap_more : (m : ℕ) (w : WarriorValue) (warriors : List WarriorValue) (s : ℕ) (starts : List ℕ)
    → overlap m (w ∷ warriors) (s ∷ starts) ≡ (has_duplicate (addresses_from m s (length w.cells)) || share (addresses_from m s (length w.cells)) (loaded_addresses m warriors starts) || overlap m warriors starts)
unfolding overlap
overlap_more m w warriors s starts = has_duplicate-append (addresses_from m s (length w.cells)) (loaded_addresses m warriors starts)

pub share_nothing : (row : List ℕ) → share row [] ≡ false
unfolding share
share_nothing [] = refl
share_nothing (x ∷ row) = share_nothing row

pub overlap_nothing : (m : ℕ) (starts : List ℕ) → overlap m [] starts ≡ false
unfolding overlap
overlap_nothing m starts = refl

-- The warriors from the index `i` on are the warrior `w` there, and those after it.
pub shared_step : (m : ℕ) (row : List ℕ) (warriors : List WarriorValue) (starts : List ℕ) (i : ℕ) (w : WarriorValue) → i < length warriors → length starts ≡ length warriors → w ≡ get_or warriors i w
    → share row (loaded_addresses m (drop i warriors) (drop i starts))
    ≡ (share row (addresses_from m (get_or starts i 0) (length w.cells)) || share row (loaded_addresses m (drop (i + 1) warriors) (drop (i + 1) starts)))
shared_step m row warriors starts i w h same is =
    at_drop_more (λ l. share row (loaded_addresses m l (drop i starts))) warriors i w h
    ∙ at_drop_more (λ l. share row (loaded_addresses m (get_or warriors i w ∷ drop (i + 1) warriors) l)) starts i 0 (omega arith)
    ∙ ap (λ (v : WarriorValue). share row (loaded_addresses m (v ∷ drop (i + 1) warriors) (get_or starts i 0 ∷ drop (i + 1) starts))) (sym is)
    ∙ share_more m row w (drop (i + 1) warriors) (get_or starts i 0) (drop (i + 1) starts)

pub overlap_step : (m : ℕ) (warriors : List WarriorValue) (starts : List ℕ) (i : ℕ) (w : WarriorValue) → i < length warriors → length starts ≡ length warriors → w ≡ get_or warriors i w
    → overlap m (drop i warriors) (drop i starts)
    ≡ (has_duplicate (addresses_from m (get_or starts i 0) (length w.cells)) || share (addresses_from m (get_or starts i 0) (length w.cells)) (loaded_addresses m (drop (i + 1) warriors) (drop (i + 1) starts)) || overlap m (drop (i + 1) warriors) (drop (i + 1) starts))
overlap_step m warriors starts i w h same is =
    at_drop_more (λ l. overlap m l (drop i starts)) warriors i w h
    ∙ at_drop_more (λ l. overlap m (get_or warriors i w ∷ drop (i + 1) warriors) l) starts i 0 (omega arith)
    ∙ ap (λ (v : WarriorValue). overlap m (v ∷ drop (i + 1) warriors) (get_or starts i 0 ∷ drop (i + 1) starts)) (sym is)
    ∙ overlap_more m w (drop (i + 1) warriors) (get_or starts i 0) (drop (i + 1) starts)

-- After the last warrior, there are no addresses.
pub shared_end : (m : ℕ) (row : List ℕ) (warriors : List WarriorValue) (starts : List ℕ) (i : ℕ) → length warriors ≤ i → share row (loaded_addresses m (drop i warriors) (drop i starts)) ≡ false
shared_end m row warriors starts i h =
    ap (λ l. share row (loaded_addresses m l (drop i starts))) (drop_all i warriors h) ∙ share_nothing row

pub overlap_end : (m : ℕ) (warriors : List WarriorValue) (starts : List ℕ) (i : ℕ) → length warriors ≤ i → overlap m (drop i warriors) (drop i starts) ≡ false
overlap_end m warriors starts i h =
    ap (λ l. overlap m l (drop i starts)) (drop_all i warriors h) ∙ overlap_nothing m (drop i starts)
