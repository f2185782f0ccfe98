-- A warrior apart fights as it would without opponents.
use Rattle.std.proofs.Common.{◌≡◌, ◌≢◌, ℕ, zero, suc, ◌+◌, ◌<◌, ◌≤◌, Bool, true, false, cond, List, [], ◌∷◌, ◌++◌, length, get_or, Option, None, Some, refl, ap, sym, ◌∙◌, subst, arith, inl, inr}
use Rattle.std.specs.Prelude.{◌⊎◌, ◌==◌, ◌&&◌, ◌||◌, nat_le, if◌then◌else◌}
use Rattle.std.proofs.lemmas.Bool.{cases_eq, cases_lt}
use Rattle.std.proofs.lemmas.Bool.Decides.{nat_tests}
use Rattle.std.specs.List.{AllPass, list_any}
use Rattle.std.proofs.lemmas.List.Elements.{All-nil}
use Rattle.std.proofs.lemmas.List.Recursion.{or_at}
use Rattle.std.proofs.lemmas.List.Sums.{sum_by-cons}
use Rattle.mars_cell.specs.Parameters.{Parameters}
use Rattle.mars_core.specs.State.{State, queue_of, is_empty, live_from, survivors_of, is_over_of, ends, moved_clock, advanced, clock_of}
use Rattle.mars_core.specs.Turn.{executed, turn_of, after_turns}
use Rattle.mars_core.specs.Touched.{touched_in_turn}
use Rattle.mars_core.specs.Start.{is_in}
use Rattle.mars_core.specs.Apart.{StaysWithin, OthersLeaveUnchanged, count_own_turns, touched_in, AgreesOn}
use Rattle.mars_core.specs.Validity.{IsValid}
use Rattle.mars_core.specs.declared.machine.clock.Clock.{Clock}
use Rattle.mars_core.proofs.ForLaws.Apart.{own_counts, other_counts, own_turn, other_turn, turn_first, left_first, left_later, keeps_first, keeps_later, own_cells_left}
use Rattle.mars_core.proofs.CallerLemmas.{shape-turn_of, cycle-turn_of}
use Rattle.mars_core.proofs.Clocks.{live_from_is, living_warrior}
use Rattle.mars_core.proofs.Fights.{next_lives}
use Rattle.mars_core.proofs.Turns.{running, turn_valid, filled_one, same_eq, other_eq}

-- The turn passes to a later warrior in the same cycle, or a cycle is added.
abbrev StepsOn : Clock → Clock → Type 0
StepsOn clock after = ((after.cycle ≡ clock.cycle) × (clock.next < after.next)) ⊎ (after.cycle ≡ clock.cycle + 1)

clock_steps : (qs : List (List ℕ)) (clock : Clock) (o z : Option ℕ) → live_from qs (clock.next + 1) ≡ o → live_from qs 0 ≡ z → 1 ≤ survivors_of qs → StepsOn clock (moved_clock clock o z)
clock_steps qs clock (Some k) z e f alive = let h = live_from_is qs (clock.next + 1) k e in inl (refl, omega (arith, h.above))
clock_steps qs clock None (Some k) e f alive = inr refl
clock_steps qs clock None None e f alive = absurd (let s = (living_warrior qs alive).1 in cc)

turn_steps : (s : State) → IsValid s → is_over_of s ≡ false → is_over_of (turn_of s) ≡ false → StepsOn (clock_of s) (clock_of (turn_of s))
unfolding turn_of executed advanced
turn_steps s v over on =
    let after = turn_valid s v over in
    let alive = (running s.params.cycles (turn_of s).cycle (turn_of s).queues after.some on).alive in
    clock_steps (executed s).queues (clock_of s) _ _ refl refl alive

-- The battle `t` of the warrior without opponents is not ahead of `s`: it has completed one more cycle than `s` only if
-- the warrior has had its turn in the present cycle of `s`.
abbrev IsNotAhead : ℕ → State → State → Type 0
IsNotAhead w s t = is_over_of s ≡ false → (s.next ≤ w → t.cycle ≤ s.cycle) × (t.cycle ≤ s.cycle + 1)

own_behind : (w : ℕ) (s t : State) → IsValid s → is_over_of s ≡ false → s.next ≡ w → IsNotAhead w s t → IsNotAhead w (turn_of s) (turn_of t)
own_behind w s t v over own behind on =
    let before = (behind over).0 (omega (arith, own)) in
    let more = (cycle-turn_of t).1 in
    elim (turn_steps s v over on) [
      | inl same ↦ (λ h. absurd (omega (arith, h, same.1, own)), omega (arith, same.0, before, more))
      | inr next ↦ (λ h. omega (arith, next, before, more), omega (arith, next, before, more))
    ]

other_behind : (w : ℕ) (s t : State) → IsValid s → is_over_of s ≡ false → IsNotAhead w s t → IsNotAhead w (turn_of s) t
other_behind w s t v over behind on =
    let before = behind over in
    let later = before.1 in
    elim (turn_steps s v over on) [
      | inl same ↦ (λ h. (let early = before.0 (omega (arith, h, same.1)) in omega (arith, early, same.0)), omega (arith, same.0, later))
      | inr next ↦ (λ h. omega (arith, next, later), omega (arith, next, later))
    ]

one_lives : (qs : List (List ℕ)) → length qs ≡ 1 → queue_of qs 0 ≢ [] → 1 ≤ survivors_of qs
one_lives [] one lives = absurd (omega (arith, one))
one_lives (q ∷ []) one lives =
    let sum = sum_by-cons (λ (q : List ℕ). cond (is_empty q) 0 1) q [] in
    let this = filled_one q lives in
    omega (arith, sum, this)
one_lives (q ∷ r ∷ qs) one lives = absurd (omega (arith, one))

lone_runs : (cycles cycle n alive : ℕ) → n ≡ 1 → cycle < cycles → 1 ≤ alive → ((cycle == cycles) || (nat_le 2 n && nat_le alive 1) || (n == 1 && alive == 0)) ≡ false
lone_runs cycles cycle n alive one less lives = grind (arith, nat_tests)

-- The battle `t` of a single warrior is not over if this warrior has a turn in the battle `s`.
lone_goes_on : (part : ℕ → Bool) (s t : State) → IsValid s → is_over_of s ≡ false → length t.queues ≡ 1 → t.cycle ≤ s.cycle → AgreesOn part s.next s 0 t → is_over_of t ≡ false
unfolding ends
lone_goes_on part s t v over one behind g =
    let run = running s.params.cycles s.cycle s.queues v.some over in
    let cycles = ap (λ (p : Parameters). p.cycles) g.params in
    let lives = one_lives t.queues one (λ e. next_lives s v over (g.processes ∙ e)) in
    lone_runs t.params.cycles t.cycle (length t.queues) (survivors_of t.queues) one (omega (arith, v.clock.cycle, run.cycles_left, behind, cycles)) lives

module _ (part : ℕ → Bool) (w : ℕ) where
  lone_turn : (s t : State) → IsValid s → IsValid t → s.next ≡ w → length t.queues ≡ 1 → AgreesOn part w s 0 t → AllPass part (touched_in_turn s) → AgreesOn part w (turn_of s) 0 (turn_of t)
  lone_turn s t v u own one g keeps =
      let only : t.next ≡ 0 = omega (arith, u.clock.next, one) in
      let here : AgreesOn part s.next s t.next t = subst (λ x. AgreesOn part x s t.next t) (sym own) (subst (λ y. AgreesOn part w s y t) (sym only) g) in
      let there = own_turn part s t v u here keeps in
      subst (λ x. AgreesOn part x (turn_of s) 0 (turn_of t)) own (subst (λ y. AgreesOn part s.next (turn_of s) y (turn_of t)) only there)

  alone : (n : ℕ) (s t : State) → IsValid s → IsValid t → length t.queues ≡ 1 → IsNotAhead w s t → AgreesOn part w s 0 t → StaysWithin part w n s → OthersLeaveUnchanged part w n s → AgreesOn part w (after_turns n s) 0 (after_turns (count_own_turns w n s) t)
  alone zero s t v u one behind g keeps left = g
  alone (suc n) s t v u one behind g keeps left =
      elim (is_over_of s) as (λ b. is_over_of s ≡ b → AgreesOn part w (if b then s else after_turns n (turn_of s)) 0 (after_turns (if b then 0 else cond (s.next == w) 1 0 + count_own_turns w n (turn_of s)) t)) [
        | true ↦ λ e. g
        | false ↦ λ e. (
            let j = count_own_turns w n (turn_of s) in
            let valid = turn_valid s v e in
            let later = keeps_later part w n s e keeps in
            let left_there = left_later part w n s e left in
            elim (cases_eq s.next w) [
              | inl own ↦ (
                  let mine : AgreesOn part s.next s 0 t = subst (λ x. AgreesOn part x s 0 t) (sym own) g in
                  let runs = lone_goes_on part s t v e one ((behind e).0 (omega (arith, own))) mine in
                  let next = lone_turn s t v u own one g (keeps_first part w n s e keeps own) in
                  let last = alone n (turn_of s) (turn_of t) valid (turn_valid t u runs) ((shape-turn_of t).warriors ∙ one) (own_behind w s t v e own behind) next later left_there in
                  subst (λ k. AgreesOn part w (after_turns n (turn_of s)) 0 (after_turns k t)) (sym (own_counts w s.next j own))
                  (subst (λ x. AgreesOn part w (after_turns n (turn_of s)) 0 x) (sym (turn_first j t runs)) last)
                  )
              | inr other ↦ (
                  let next = other_turn part w 0 s t (λ same. other (sym same)) g (left_first part w n s e left other) in
                  let last = alone n (turn_of s) t valid u one (other_behind w s t v e behind) next later left_there in
                  subst (λ k. AgreesOn part w (after_turns n (turn_of s)) 0 (after_turns k t)) (sym (other_counts w s.next j other)) last
                  )
            ]
            )
      ] refl

pub fights_alone : (part : ℕ → Bool) (w n : ℕ) (s t : State) → IsValid s → IsValid t → length t.queues ≡ 1 → t.cycle ≤ s.cycle → AgreesOn part w s 0 t → StaysWithin part w n s → OthersLeaveUnchanged part w n s → AgreesOn part w (after_turns n s) 0 (after_turns (count_own_turns w n s) t)
fights_alone part w n s t v u one early g keeps left = alone part w n s t v u one (λ e. (λ h. early, omega (arith, early))) g keeps left

each_is_in : (xs : List ℕ) → AllPass (is_in xs) xs
each_is_in xs k d h = or_at (list_any (λ y. get_or xs k d == y)) (λ y. get_or xs k d == y) refl (λ _ _. refl) xs k d h (same_eq (get_or xs k d))

pub undisturbed_alone : (w n : ℕ) (s t : State) → IsValid s → IsValid t → length t.queues ≡ 1 → t.cycle ≤ s.cycle → AgreesOn (is_in (touched_in w n s)) w s 0 t → OthersLeaveUnchanged (is_in (touched_in w n s)) w n s → AgreesOn (is_in (touched_in w n s)) w (after_turns n s) 0 (after_turns (count_own_turns w n s) t)
undisturbed_alone w n s t v u one early g left =
    fights_alone (is_in (touched_in w n s)) w n s t v u one early g (each_is_in (touched_in w n s)) left

-- A warrior that does not exist touches nothing.
absent_keeps : (part : ℕ → Bool) (w n : ℕ) (s : State) → IsValid s → length s.queues ≤ w → StaysWithin part w n s
absent_keeps part w zero s v past = All-nil (λ a. part a ≡ true)
absent_keeps part w (suc n) s v past =
    let other = other_eq s.next w (λ e. absurd (omega (arith, e, v.clock.next, past))) in
    elim (is_over_of s) as (λ b. is_over_of s ≡ b → AllPass part (if b then [] else cond (s.next == w) (touched_in_turn s) [] ++ touched_in w n (turn_of s))) [
      | true ↦ λ over. All-nil (λ a. part a ≡ true)
      | false ↦ λ over. rw other (absent_keeps part w n (turn_of s) (turn_valid s v over) (omega (arith, past, (shape-turn_of s).warriors)))
    ] refl

pub untouched_alone : (owner : ℕ → ℕ) (w n : ℕ) (s t : State) → IsValid s → IsValid t → length t.queues ≡ 1 → t.cycle ≤ s.cycle → AgreesOn (λ a. owner a == w) w s 0 t → ((v : ℕ) → v < length s.queues → StaysWithin (λ a. owner a == v) v n s) → AgreesOn (λ a. owner a == w) w (after_turns n s) 0 (after_turns (count_own_turns w n s) t)
untouched_alone owner w n s t v u one early g keeps =
    let mine = elim (cases_lt w (length s.queues)) as (λ _. StaysWithin (λ a. owner a == w) w n s) [ inl known ↦ keeps w known | inr past ↦ absent_keeps (λ a. owner a == w) w n s v past ] in
    fights_alone (λ a. owner a == w) w n s t v u one early g mine (own_cells_left owner n s v keeps w)
