-- The clock after an edit of a queue.
use Rattle.std.proofs.Common.{◌≡◌, ◌≢◌, ℕ, zero, suc, ◌+◌, ◌-◌, ◌*◌, ◌<◌, ◌≤◌, List, [], ◌∷◌, length, get_or, set, drop, refl, ap, sym, ◌∙◌, arith, Option, None, Some, cond, inl, inr}
use Rattle.std.specs.Prelude.{option_map}
use Rattle.std.proofs.lemmas.List.{length-set, get_or-drop, length-drop, get_or-set_same, get_or-set_other}
use Rattle.std.proofs.lemmas.List.Sums.{sum_by-set, sum_by-append}
use Rattle.std.proofs.lemmas.Bool.{cases_eq}
use Rattle.mars_core.specs.State.{is_empty, first_live, live_from, survivors_of, moved_clock, advanced}
use Rattle.mars_core.specs.Validity.{IsClock}
use Rattle.mars_core.specs.declared.machine.clock.Clock.{Clock}
use Rattle.mars_core.proofs.Clocks.{IsLive, live_from_is, living_warrior}
use Rattle.mars_core.proofs.Turns.{filled_one}

-- The first live index is at most every live index.
first_live_least : (qs : List (List ℕ)) (k : ℕ) → k < length qs → get_or qs k [] ≢ [] → (j : ℕ) × (first_live qs ≡ Some j) × (j ≤ k)
first_live_least [] k h n = absurd (omega arith)
first_live_least ([] ∷ qs) zero h n = absurd (n refl)
first_live_least ([] ∷ qs) (suc k) h n =
    let found = first_live_least qs k (omega arith) n in
    (suc found.0, ap (option_map suc) found.1, omega (arith, found.2))
first_live_least ((x ∷ q) ∷ qs) k h n = (0, refl, omega arith)

-- The first live index from `i` on is at most every live index from `i` on.
pub live_from_least : (qs : List (List ℕ)) (i k : ℕ) → IsLive qs i k → (j : ℕ) × (live_from qs i ≡ Some j) × (j ≤ k)
live_from_least qs i k l =
    let inside : k - i < length (drop i qs) = simp length-drop (omega (arith, l.above, l.below)) in
    let there : i + (k - i) ≡ k = omega (arith, l.above) in
    let lives : get_or (drop i qs) (k - i) [] ≢ [] = λ e. l.lives (ap (λ n. get_or qs n []) (sym there) ∙ sym (get_or-drop i qs (k - i) []) ∙ e) in
    let found = first_live_least (drop i qs) (k - i) inside lives in
    (i + found.0, ap (option_map (λ n. i + n)) found.1, omega (arith, found.2, l.above))

-- A live warrior is counted as a survivor.
pub live_survives : (qs : List (List ℕ)) (k : ℕ) → k < length qs → get_or qs k [] ≢ [] → 1 ≤ survivors_of qs
live_survives [] k h n = absurd (omega arith)
live_survives ([] ∷ qs) zero h n = absurd (n refl)
live_survives ([] ∷ qs) (suc k) h n = omega (arith, live_survives qs k (omega arith) n)
live_survives ((x ∷ q) ∷ qs) k h n =
    omega (arith, sum_by-append (λ (q : List ℕ). cond (is_empty q) 0 1) ((x ∷ q) ∷ []) qs)

more_turns : (c w m i k : ℕ) → m ≤ c * w + i → i < w → m ≤ (c + 1) * w + k
more_turns c w m i k h l = omega arith

module _ (cycles : ℕ) (qs : List (List ℕ)) (clock : Clock) (made w : ℕ) (k : IsClock cycles qs clock made) (inside : w < length qs) (lives : get_or qs w [] ≢ []) where
  alive : 1 ≤ survivors_of qs
  alive = live_survives qs w inside lives

  -- A warrior that lives after the death of `w` lived before it.
  lived : (i j : ℕ) → IsLive (set qs w []) i j → IsLive qs i j
  lived i j l =
      let other : j ≢ w = λ e. l.lives (ap (λ n. get_or (set qs w []) n []) e ∙ get_or-set_same qs w [] [] inside) in
      let below = l.below in
      record {
        above = l.above;
        below = simp length-set at below;
        lives = λ e. l.lives (get_or-set_other qs w j [] [] other ∙ e);
      }

  -- After the last cycle, no warrior before `next` lives.
  not_below : (j : ℕ) → clock.cycle ≡ cycles → IsLive (set qs w []) 0 j → clock.next ≤ j
  not_below j last l =
      let first = live_from_least qs 0 j (lived 0 j l) in
      let same : Some clock.next ≡ Some first.0 = sym (k.last_cycle last alive) ∙ first.1 in
      let is : clock.next ≡ first.0 = cc in
      omega (arith, first.2)

  clock_moved : (o z : Option ℕ) → live_from (set qs w []) clock.next ≡ o → live_from (set qs w []) 0 ≡ z → IsClock cycles (set qs w []) (moved_clock clock o z) made
  clock_moved (Some j) z e f =
      let h = live_from_is (set qs w []) clock.next j e in
      let turns = k.turns_alive alive in
      record {
        next = h.below;
        next_lives = λ _. h.lives;
        cycle = k.cycle;
        last_cycle = λ last _. (
            let least = live_from_least (set qs w []) 0 j (record { above = omega arith; below = h.below; lives = h.lives }) in
            let least_live = live_from_is (set qs w []) 0 least.0 least.1 in
            let from_next = not_below least.0 last least_live in
            let again = live_from_least (set qs w []) clock.next least.0 (record { above = from_next; below = least_live.below; lives = least_live.lives }) in
            let same : Some j ≡ Some again.0 = sym e ∙ again.1 in
            let is : j ≡ again.0 = cc in
            let both : least.0 ≡ j = omega (arith, again.2, least.2) in
            least.1 ∙ ap Some both
            );
        turns = rw length-set (omega (arith, turns, h.above));
        turns_alive = λ _. rw length-set (omega (arith, turns, h.above));
      }
  clock_moved None (Some j) e f =
      let h = live_from_is (set qs w []) 0 j f in
      let turns = k.turns_alive alive in
      let left : clock.cycle ≢ cycles = λ last. (
      let from_next = not_below j last h in
      let again = live_from_least (set qs w []) clock.next j (record { above = from_next; below = h.below; lives = h.lives }) in
      let same : None ≡ Some again.0 = sym e ∙ again.1 in
      cc
      ) in
      let more = more_turns clock.cycle (length qs) made clock.next j turns k.next in
      record {
        next = h.below;
        next_lives = λ _. h.lives;
        cycle = omega (arith, left, k.cycle);
        last_cycle = λ _ _. f;
        turns = rw length-set (omega (arith, more));
        turns_alive = λ _. rw length-set more;
      }
  clock_moved None None e f =
      let none_lives : (h : 1 ≤ survivors_of (set qs w [])) → ⊥ = λ h. (let s = (living_warrior (set qs w []) h).1 in cc) in
      let turns = k.turns_alive alive in
      record {
        next = rw length-set k.next;
        next_lives = λ h. absurd (none_lives h);
        cycle = k.cycle;
        last_cycle = λ _ h. absurd (none_lives h);
        turns = rw length-set (omega (arith, turns));
        turns_alive = λ h. absurd (none_lives h);
      }

  pub clock_after_death : IsClock cycles (set qs w []) (advanced (set qs w []) clock clock.next) made
  unfolding advanced
  clock_after_death = clock_moved (live_from (set qs w []) clock.next) (live_from (set qs w []) 0) refl refl

-- Changing a queue that is not empty before and after does not change which warriors live.
first_live_kept : (qs : List (List ℕ)) (w : ℕ) (q : List ℕ) → w < length qs → get_or qs w [] ≢ [] → q ≢ [] → first_live (set qs w q) ≡ first_live qs
first_live_kept [] w q h n m = absurd (omega arith)
first_live_kept ([] ∷ qs) zero q h n m = absurd (n refl)
first_live_kept ((x ∷ p) ∷ qs) zero [] h n m = absurd (m refl)
first_live_kept ((x ∷ p) ∷ qs) zero (y ∷ q) h n m = refl
first_live_kept ([] ∷ qs) (suc w) q h n m = ap (option_map suc) (first_live_kept qs w q (omega arith) n m)
first_live_kept ((x ∷ p) ∷ qs) (suc w) q h n m = refl

pub survivors_kept : (qs : List (List ℕ)) (w : ℕ) (q : List ℕ) → w < length qs → get_or qs w [] ≢ [] → q ≢ [] → survivors_of (set qs w q) ≡ survivors_of qs
survivors_kept qs w q h n m =
    let changed = sum_by-set (λ (q : List ℕ). cond (is_empty q) 0 1) qs w q [] h in
    omega (arith, changed, filled_one (get_or qs w []) n, filled_one q m)

next_kept : (qs : List (List ℕ)) (w next : ℕ) (q : List ℕ) → w < length qs → q ≢ [] → get_or qs next [] ≢ [] → get_or (set qs w q) next [] ≢ []
next_kept qs w next q h m n =
    elim (cases_eq next w) [
      | inl e ↦ λ f. m (sym (get_or-set_same qs w q [] h) ∙ ap (λ i. get_or (set qs w q) i []) (sym e) ∙ f)
      | inr o ↦ λ f. n (sym (get_or-set_other qs w next q [] o) ∙ f)
    ]

pub clock_kept : (cycles : ℕ) (qs : List (List ℕ)) (clock : Clock) (made w : ℕ) (q : List ℕ) → IsClock cycles qs clock made → w < length qs → get_or qs w [] ≢ [] → q ≢ [] → IsClock cycles (set qs w q) clock made
clock_kept cycles qs clock made w q k h n m =
    let same = survivors_kept qs w q h n m in
    let turns = k.turns in
    record {
      next = rw length-set k.next;
      next_lives = λ s. next_kept qs w clock.next q h m (k.next_lives (rw same at s));
      cycle = k.cycle;
      last_cycle = λ last s. ap (option_map (λ i. 0 + i)) (first_live_kept qs w q h n m) ∙ k.last_cycle last (rw same at s);
      turns = rw length-set turns;
      turns_alive = λ s. rw length-set (k.turns_alive (rw same at s));
    }
