-- Turns never fall along a tape, and rise by at most one from place to place. So goto finds exactly the numbers of turns
-- between those of the first and of the last place.
use Rattle.std.proofs.Common.{◌≡◌, ℕ, ◌+◌, ◌<◌, ◌≤◌, ◌≢◌, inl, inr, Bool, true, false, List, [], ◌∷◌, Option, Some, None, refl, ap, sym, ◌∙◌, arith, nat_eq, eq-eqb, ne_eqb, if◌then◌else◌}
use Rattle.std.specs.Prelude.{IsSome, is_some, ◌↔◌, nat_le, reverse, ◌++◌}
use Rattle.std.proofs.lemmas.Bool.{eqb-true, eqb-false, leb-true, leb-false}
use Rattle.mars_core.specs.State.{State}
use Rattle.mars_core.proofs.CallerLemmas.{turns-turn_of, turns-edited, cycle-turn_of, cycle-edited}
use Rattle.mars_session.specs.History.{Place, History, places, rewound_from, rewound, first_at_turn_from, first_at_turn, goto, last_place, first_turns, last_turns}
use Rattle.mars_session.specs.Tapes.{Follows, FollowsAll, AllFollow, Steps, RisesFrom, TurnsRise}
use Rattle.mars_session.specs.Laws.{GrowsByAtMostOne, TurnsAndCyclesRise, GotoBetween}
use Rattle.mars_session.proofs.Walking.{last_turns_rewound, rewound_first}
use Rattle.mars_session.proofs.Places.{places_rewound}

-- From one place to the next, the number of turns stays or rises by one.
pub one_turn : (s t : State) → Follows s t → (s.turns ≤ t.turns) × (t.turns ≤ s.turns + 1)
one_turn s t (inl h) = let more : t.turns ≡ s.turns + 1 = ap (λ (x : State). x.turns) h.1 ∙ turns-turn_of s in (omega (arith, more), omega (arith, more))
one_turn s t (inr h) = let same : t.turns ≡ s.turns = ap (λ (x : State). x.turns) h.2 ∙ turns-edited s h.0 in (omega (arith, same), omega (arith, same))

-- From one place to the next, the number of cycles stays or rises by one.
pub one_cycle : (s t : State) → Follows s t → (s.cycle ≤ t.cycle) × (t.cycle ≤ s.cycle + 1)
one_cycle s t (inl h) = rw h.1 (cycle-turn_of s)
one_cycle s t (inr h) = rw h.2 (cycle-edited s h.0)

rises_from : (number : State → ℕ) → ((s t : State) → Follows s t → (number s ≤ number t) × (number t ≤ number s + 1)) → (s : State) (ps : List Place) → AllFollow s ps → RisesFrom number s ps
rises_from number one s [] a = tt
rises_from number one s (p ∷ ps) a = ((one s p.state a.0).0, (one s p.state a.0).1, rises_from number one p.state ps a.1)

-- The turns rise from the state `s` along the places `ps`.
abbrev Rise : State → List Place → Type 0
Rise s ps = RisesFrom (λ (t : State). t.turns) s ps

-- The places of the rewound history follow one another too.
pub AllFollow-rewound : (before : List Place) (p : Place) (after : List Place) → FollowsAll before p.state → AllFollow p.state after
    → AllFollow (rewound_from before p after).present.state (rewound_from before p after).after
AllFollow-rewound [] p after b a = a
AllFollow-rewound (q ∷ before) p after b a = AllFollow-rewound before q (p ∷ after) b.1 (b.0, a)

-- If the turns rise from the first place, they rise from each place on.
rises_here : (before : List Place) (p : Place) (after : List Place) → Rise (rewound_from before p after).present.state (rewound_from before p after).after → Rise p.state after
rises_here [] p after r = r
rises_here (b ∷ before) p after r = (rises_here before b (p ∷ after) r).2

-- If the place `p` has fewer than `t` turns, no place before it is the first one with `t` turns.
none_before_from : (t : ℕ) (before : List Place) (p : Place) (after : List Place) → p.state.turns < t → Rise (rewound_from before p after).present.state (rewound_from before p after).after
    → first_at_turn t (rewound_from before p after) ≡ first_at_turn_from t before p after
none_before_from t [] p after l r = refl
none_before_from t (b ∷ before) p after l r =
    let fewer : b.state.turns ≤ p.state.turns = (rises_here before b (p ∷ after) r).0 in
    let differs : b.state.turns ≢ t = λ e. absurd (omega (arith, fewer, e)) in
    none_before_from t before b (p ∷ after) (omega (arith, fewer)) r ∙ rw (ne_eqb b.state.turns t differs) refl

pub none_before : (t : ℕ) (h : History) → TurnsRise h → h.present.state.turns < t → goto t h ≡ first_at_turn t h
none_before t h r l = none_before_from t h.before h.present h.after l r

-- The last place has at least as many turns as `p`.
last_above : (p : Place) (after : List Place) → Rise p.state after → p.state.turns ≤ (last_place p after).state.turns
last_above p [] r = omega arith
last_above p (q ∷ after) r = omega (arith, r.0, last_above q after r.2)

some_or : (b : Bool) (k : History) (x : Option History) → (b ≡ false → IsSome x) → IsSome (if b then Some k else x)
some_or true k x h = refl
some_or false k x h = h refl

either : (P : Type 0) (b : Bool) (k : History) (x : Option History) → IsSome (if b then Some k else x) → (b ≡ true → P) → (b ≡ false → IsSome x → P) → P
either P true k x some here there = here refl
either P false k x some here there = there refl some

-- Each number of turns between those of `p` and of the last place occurs.
met : (t : ℕ) (before : List Place) (p : Place) (after : List Place) → Rise p.state after → p.state.turns ≤ t → t ≤ (last_place p after).state.turns → IsSome (first_at_turn_from t before p after)
met t before p [] r low high = let e : p.state.turns ≡ t = omega arith in rw (eq-eqb p.state.turns t e) refl
met t before p (q ∷ after) r low high =
    some_or (nat_eq p.state.turns t) (record { before = before; present = p; after = q ∷ after }) (first_at_turn_from t (p ∷ before) q after)
    (λ e. let differs : p.state.turns ≢ t = eqb-false p.state.turns t e in
    met t (p ∷ before) q after r.2 (omega (arith, differs, r.1)) high)

-- Each number of turns that occurs is between those of `p` and of the last place.
met_between : (t : ℕ) (before : List Place) (p : Place) (after : List Place) → Rise p.state after → IsSome (first_at_turn_from t before p after) → (p.state.turns ≤ t) × (t ≤ (last_place p after).state.turns)
met_between t before p [] r some =
    either ((p.state.turns ≤ t) × (t ≤ p.state.turns)) (nat_eq p.state.turns t) (record { before = before; present = p; after = [] }) None some
    (λ e. let same : p.state.turns ≡ t = eqb-true p.state.turns t e in (omega arith, omega arith))
    (λ e none. absurd (let f : false ≡ true = none in cc))
met_between t before p (q ∷ after) r some =
    either ((p.state.turns ≤ t) × (t ≤ (last_place q after).state.turns)) (nat_eq p.state.turns t) (record { before = before; present = p; after = q ∷ after }) (first_at_turn_from t (p ∷ before) q after) some
    (λ e. let same : p.state.turns ≡ t = eqb-true p.state.turns t e in
    (omega arith, omega (arith, r.0, last_above q after r.2)))
    (λ e found. let rest = met_between t (p ∷ before) q after r.2 found in (omega (arith, rest.0, r.0), rest.1))

turns_between : (h : History) (t : ℕ) → TurnsRise h → IsSome (goto t h) ↔ ((first_turns h ≤ t) × (t ≤ last_turns h))
turns_between h t rise =
    let last = last_turns_rewound h in
    let r : History = rewound h in (
      (λ some. let m = met_between t r.before r.present r.after rise some in (m.0, rw (sym last) m.1)),
      (λ between. met t r.before r.present r.after rise between.0 (rw last between.1)),
    )

pub goto_between : GotoBetween
goto_between h t tape =
    turns_between h t (rises_from (λ (s : State). s.turns) one_turn (rewound h).present.state (rewound h).after (AllFollow-rewound h.before h.present h.after tape.before tape.after))

none_unless : (P : Type 0) (x : Option History) → (IsSome x → P) → (P → ⊥) → is_some x ≡ false
none_unless P None some never = refl
none_unless P (Some k) some never = absurd (never (some refl))

-- Goto finds no place with more turns than the last one.
pub met_past : (t last : ℕ) (h : History) → TurnsRise h → last ≡ last_turns h → nat_le t last ≡ false → nat_le t last ≡ is_some (goto t h)
met_past t last h rise e past =
    past ∙ sym (none_unless (t ≤ last_turns h) (goto t h) (λ some. ((turns_between h t rise).0 some).1) (λ l. absurd (omega (arith, leb-false t last past, e, l))))

-- Up to the turns of the last place, each number that is not below the turns of the first place occurs.
pub met_up_to : (t first last : ℕ) (h : History) → TurnsRise h → first ≡ first_turns h → last ≡ last_turns h → t ≤ last → nat_le first t ≡ is_some (goto t h)
met_up_to t first last h rise e f up_to = by_first (nat_le first t) refl
  where
    by_first : (b : Bool) → nat_le first t ≡ b → b ≡ is_some (goto t h)
    by_first true k = sym ((turns_between h t rise).1 (omega (arith, leb-true first t k, e), omega (arith, up_to, f)))
    by_first false k =
        sym (none_unless (first_turns h ≤ t) (goto t h) (λ some. ((turns_between h t rise).0 some).0) (λ l. absurd (omega (arith, leb-false first t k, e, l))))

rises_along : (number : State → ℕ) → ((s t : State) → Follows s t → (number s ≤ number t) × (number t ≤ number s + 1)) → (h : History) → Steps h → GrowsByAtMostOne number (places h)
rises_along number one h t =
    let r : History = rewound h in
    let first : r.before ≡ [] = rewound_first h.before h.present h.after in
    let all : places h ≡ r.present ∷ r.after = sym (places_rewound h.before h.present h.after) ∙ ap (λ (b : List Place). reverse b ++ r.present ∷ r.after) first in
    rw all (rises_from number one r.present.state r.after (AllFollow-rewound h.before h.present h.after t.before t.after))

pub turns_and_cycles_rise : TurnsAndCyclesRise
turns_and_cycles_rise h t = (rises_along (λ (s : State). s.turns) one_turn h t, rises_along (λ (s : State). s.cycle) one_cycle h t)
