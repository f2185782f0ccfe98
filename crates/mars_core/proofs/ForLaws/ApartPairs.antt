-- Two warriors take turns, as long as both live.
use Rattle.std.proofs.Common.{◌≡◌, ℕ, zero, suc, ◌+◌, ◌-◌, ◌<◌, ◌≤◌, Bool, false, cond, List, [], ◌∷◌, length, refl, ap, sym, ◌∙◌, subst, arith, inl, inr}
use Rattle.std.specs.Prelude.{◌≢◌, ◌==◌, ◌&&◌, ◌||◌, nat_le}
use Rattle.std.proofs.lemmas.Bool.{cases_lt}
use Rattle.std.proofs.lemmas.Bool.Decides.{nat_tests}
use Rattle.mars_core.specs.State.{State, queue_of, survivors_of, is_over_of, ends, advanced, clock_of}
use Rattle.mars_core.specs.Turn.{executed, turn_of, after_turns}
use Rattle.mars_core.specs.Apart.{GoesOn, count_own_turns, StaysWithin, OthersLeaveUnchanged, AgreesOn}
use Rattle.mars_core.specs.Validity.{IsValid}
use Rattle.mars_core.specs.declared.deaths.Death.{Death}
use Rattle.mars_core.specs.declared.machine.clock.Clock.{Clock}
use Rattle.mars_core.proofs.ForLaws.Apart.{turn_first, fights_alike}
use Rattle.mars_core.proofs.CallerLemmas.{shape-turn_of}
use Rattle.mars_core.proofs.Counted.{valid_counted}
use Rattle.mars_core.proofs.Fights.{all_live}
use Rattle.mars_core.proofs.Live.{live_from_here, live_from_end}
use Rattle.mars_core.proofs.Turns.{turn_valid}

two_alive : (cycles cycle n alive : ℕ) → n ≡ 2 → ((cycle == cycles) || (nat_le 2 n && nat_le alive 1) || (n == 1 && alive == 0)) ≡ false → 2 ≤ alive
two_alive cycles cycle n alive two e = grind (arith, nat_tests)

no_deaths : (ds : List Death) → length ds ≡ 0 → ds ≡ []
no_deaths [] e = refl
no_deaths (d ∷ ds) e = absurd (omega (arith, e))

-- No warrior is dead in a battle of two that is not over.
none_died : (s : State) → IsValid s → length s.queues ≡ 2 → is_over_of s ≡ false → s.deaths ≡ []
unfolding ends
none_died s v two over =
    let counted = valid_counted s v in
    let alive = two_alive s.params.cycles s.cycle (length s.queues) (survivors_of s.queues) two over in
    no_deaths s.deaths (omega (arith, counted, alive, two))

other_next : (qs : List (List ℕ)) (clock : Clock) → ((w : ℕ) → w < length qs → queue_of qs w ≢ []) → length qs ≡ 2 → clock.next < length qs → (advanced qs clock (clock.next + 1)).next ≡ 1 - clock.next
unfolding advanced
other_next qs clock live two h =
    elim (cases_lt (clock.next + 1) (length qs)) [
      | inl more ↦ rw (live_from_here qs (clock.next + 1) more (live _ more)) (omega (arith, two, more))
      | inr last ↦
          let first : 0 < length qs = omega (arith, two) in
          rw (live_from_end qs (clock.next + 1) last, live_from_here qs 0 first (live _ first)) (omega (arith, two, last, h))
    ]

-- After a turn of one of two warriors, the other is next.
by_turns : (s : State) → IsValid s → length s.queues ≡ 2 → is_over_of s ≡ false → is_over_of (turn_of s) ≡ false → (turn_of s).next ≡ 1 - s.next
unfolding turn_of executed
by_turns s v two over on =
    let after = turn_valid s v over in
    let same = (shape-turn_of s).warriors in
    let live = all_live (turn_of s) after (none_died (turn_of s) after (same ∙ two) on) in
    other_next (executed s).queues (clock_of s) live (same ∙ two) (subst (λ n. s.next < n) (sym same) v.clock.next)

goes_on : (n : ℕ) (s : State) → GoesOn (suc n) s → GoesOn n (turn_of s)
goes_on n s on k h =
    let over = on 0 (omega arith) in
    subst (λ t. is_over_of t ≡ false) (turn_first k s over) (on (suc k) (omega (arith, h)))

one_turn : (w n : ℕ) (s : State) → is_over_of s ≡ false → count_own_turns w (suc n) s ≡ cond (s.next == w) 1 0 + count_own_turns w n (turn_of s)
one_turn w n s over = rw over refl

-- Each of two warriors has equally many turns in all battles.
pub turns_of_two : (w n : ℕ) (s t : State) → IsValid s → IsValid t → length s.queues ≡ 2 → length t.queues ≡ 2 → s.next ≡ t.next → GoesOn n s → GoesOn n t → count_own_turns w n s ≡ count_own_turns w n t
turns_of_two w zero s t v u two two_there next on on_there = refl
turns_of_two w (suc zero) s t v u two two_there next on on_there =
    one_turn w 0 s (on 0 (omega arith)) ∙ ap (λ i. cond (i == w) 1 0 + 0) next ∙ sym (one_turn w 0 t (on_there 0 (omega arith)))
turns_of_two w (suc (suc n)) s t v u two two_there next on on_there =
    let over = on 0 (omega arith) in
    let over_there = on_there 0 (omega arith) in
    let later = goes_on (suc n) s on in
    let later_there = goes_on (suc n) t on_there in
    let next_then : (turn_of s).next ≡ (turn_of t).next =
    by_turns s v two over (later 0 (omega arith)) ∙ ap (λ i. 1 - i) next ∙ sym (by_turns t u two_there over_there (later_there 0 (omega arith))) in
    let more =
    turns_of_two w (suc n) (turn_of s) (turn_of t) (turn_valid s v over) (turn_valid t u over_there)
    ((shape-turn_of s).warriors ∙ two) ((shape-turn_of t).warriors ∙ two_there) next_then later later_there in
    let joined : cond (s.next == w) 1 0 + count_own_turns w (suc n) (turn_of s) ≡ cond (t.next == w) 1 0 + count_own_turns w (suc n) (turn_of t) =
    ap (λ i. cond (i == w) 1 0 + count_own_turns w (suc n) (turn_of s)) next ∙ ap (λ i. cond (t.next == w) 1 0 + i) more in
    one_turn w (suc n) s over ∙ joined ∙ sym (one_turn w (suc n) t over_there)

pub two_alike : (part : ℕ → Bool) (w n : ℕ) (s t : State) → IsValid s → IsValid t → length s.queues ≡ 2 → length t.queues ≡ 2 → s.next ≡ t.next → GoesOn n s → GoesOn n t → AgreesOn part w s w t → StaysWithin part w n s → OthersLeaveUnchanged part w n s → OthersLeaveUnchanged part w n t → AgreesOn part w (after_turns n s) w (after_turns n t)
two_alike part w n s t v u two two_there next on on_there g keeps left left_there =
    fights_alike part w w n n s t v u g keeps left left_there (turns_of_two w n s t v u two two_there next on on_there)
