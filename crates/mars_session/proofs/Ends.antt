-- The numbers of turns of the first and last place of a tape of records. Both numbers are stored beside the list, and
-- the invariant relates them to the history. Each method already states the history after the call, so one lemma is
-- enough for each of back, forward, marked, cut and append; only evicting reads a record.
use Rattle.std.proofs.Common.{◌≡◌, ℕ, zero, suc, ◌+◌, ◌-◌, ◌<◌, ◌≤◌, Bool, true, false, List, [], ◌∷◌, ◌++◌, length, set, take, refl, ap, sym, ◌∙◌, arith, add-one, nat_lt, if◌then◌else◌}
use Rattle.std.proofs.lemmas.List.{length_push}
use Rattle.std.proofs.lemmas.Bool.{ltb-true, ltb-false}
use Rattle.circular_buffer.specs.Buffer.{keep_last}
use Rattle.mars_core.specs.State.{State}
use Rattle.mars_core.specs.Leads.{Leads}
use Rattle.mars_core.specs.Record.{turns_of, reverted, applied}
use Rattle.mars_core.specs.declared.record.Atom.{Atom}
use Rattle.mars_core.proofs.CallerLemmas.{record_applied, turns-applied}
use Rattle.mars_session.specs.History.{Place, History, rewound_from, rewound, marked, cut, append, back, forward, last_place, first_turns, last_turns}
use Rattle.mars_session.specs.Code.Journals.{entry_at, mark_at, journal_before, journal_history, LeadHere, IsJournal, IsRing, HasEnds}
use Rattle.mars_session.proofs.Rising.{leads_turns}
use Rattle.mars_session.proofs.Stepping.{journal_back, journal_forward, journal_marked, journal_cut, journal_append, append_kept, dropped_here}
use Rattle.mars_session.proofs.Walking.{rewound_back, rewound_forward, last_turns_rewound}

-- The state of the first place does not depend on the places that follow.
first_state : (before : List Place) (p q : Place) (after other : List Place) → p.state ≡ q.state → (rewound_from before p after).present.state ≡ (rewound_from before q other).present.state
first_state [] p q after other e = e
first_state (b ∷ before) p q after other e = first_state before b b (p ∷ after) (q ∷ other) refl

last_state : (p q : Place) (after : List Place) → p.state ≡ q.state → (last_place p after).state ≡ (last_place q after).state
last_state p q [] e = e
last_state p q (a ∷ after) e = refl

-- Moves preserve both ends.
ends_moved : (h k : History) (f l : ℕ) → rewound k ≡ rewound h → HasEnds h f l → HasEnds k f l
ends_moved h k f l e d = record {
  first = d.first ∙ ap (λ (x : History). x.present.state.turns) (sym e);
  last = d.last ∙ sym (last_turns_rewound h) ∙ ap last_turns (sym e) ∙ last_turns_rewound k;
}

ends_back : (h : History) (f l : ℕ) → HasEnds h f l → HasEnds (back h) f l
ends_back h f l = ends_moved h (back h) f l (rewound_back h)

ends_forward : (h : History) (f l : ℕ) → HasEnds h f l → HasEnds (forward h) f l
ends_forward h f l = ends_moved h (forward h) f l (rewound_forward h)

pub ends_marked : (h : History) (f l : ℕ) → HasEnds h f l → HasEnds (marked h) f l
ends_marked h f l d = record {
  first = d.first ∙ ap (λ (s : State). s.turns) (first_state h.before h.present (marked h).present h.after h.after refl);
  last = d.last ∙ ap (λ (s : State). s.turns) (last_state h.present (marked h).present h.after refl);
}

ends_cut : (h : History) (f l : ℕ) → HasEnds h f l → HasEnds (cut h) f h.present.state.turns
ends_cut h f l d = record { first = d.first ∙ ap (λ (s : State). s.turns) (first_state h.before h.present h.present h.after [] refl); last = refl }

ends_append : (h : History) (t : State) (f l : ℕ) → HasEnds h f l → HasEnds (append h t) f t.turns
ends_append h t f l d = record {
  first = d.first ∙ ap (λ (s : State). s.turns) (first_state h.before h.present h.present h.after (record { state = t; mark = false } ∷ []) refl);
  last = refl;
}

-- The ends of a history that is stored as records, after moves, marks, cuts and appends.
module _ (first : Bool) (es : List (Atom × Bool)) (at : ℕ) (s : State) (f l : ℕ) (ends : HasEnds (journal_history first es at s) f l) where
  pub journal_ends_back : 0 < at → IsJournal es at s → HasEnds (journal_history first es (at - 1) (reverted (entry_at es (at - 1)).0 s)) f l
  journal_ends_back k d = rw (journal_back first es at s k d) (ends_back (journal_history first es at s) f l ends)

  pub journal_ends_forward : at < length es → IsJournal es at s → HasEnds (journal_history first es (at + 1) (applied (entry_at es at).0 s)) f l
  journal_ends_forward k d = rw (journal_forward first es at s k d) (ends_forward (journal_history first es at s) f l ends)

  pub journal_ends_marked : 0 < at → at ≤ length es → HasEnds (journal_history first (set es (at - 1) ((entry_at es (at - 1)).0, true)) at s) f l
  journal_ends_marked k d = rw (journal_marked first es at s k d) (ends_marked (journal_history first es at s) f l ends)

  pub journal_ends_cut : at ≤ length es → HasEnds (journal_history first (take at es) at s) f s.turns
  journal_ends_cut k = rw (journal_cut first es at s k) (ends_cut (journal_history first es at s) f l ends)

  pub journal_ends_append : (t : State) (a : Atom) → length es ≡ at → Leads s a t → HasEnds (journal_history first (es ++ (a, false) ∷ []) (at + 1) t) f t.turns
  journal_ends_append t a e leads = rw (journal_append first es at s t a e leads) (ends_append (journal_history first es at s) t f l ends)

-- The state from which `n` records led to `s`.
abbrev first_of : List (Atom × Bool) → ℕ → State → State
first_of es zero s = s
first_of es (suc n) s = first_of es n (reverted (entry_at es n).0 s)

first_is : (first : Bool) (es : List (Atom × Bool)) (n : ℕ) (s : State) (p : Place) (after : List Place) → p.state ≡ s
    → (rewound_from (journal_before first es n s) p after).present.state ≡ first_of es n s
first_is first es zero s p after e = e
first_is first es (suc n) s p after e =
    let t : State = reverted (entry_at es n).0 s in
    first_is first es n t (record { state = t; mark = mark_at first es n }) (p ∷ after) refl

journal_first : (first : Bool) (es : List (Atom × Bool)) (at : ℕ) (s : State) → first_turns (journal_history first es at s) ≡ (first_of es at s).turns
journal_first first es at s =
    let h : History = journal_history first es at s in ap (λ (t : State). t.turns) (first_is first es at s h.present h.after refl)

first_below : (es : List (Atom × Bool)) (n : ℕ) (s : State) → LeadHere es n s → (first_of es n s).turns ≤ s.turns
first_below es zero s d = omega arith
first_below es (suc n) s d =
    let t : State = reverted (entry_at es n).0 s in omega (arith, first_below es n t d.1, (leads_turns t s (entry_at es n).0 d.0).0)

-- If the first record is dropped, the turns of the first place rise by the turns of this record.
dropped_first : (e : Atom × Bool) (es : List (Atom × Bool)) (n : ℕ) (s : State) → LeadHere (e ∷ es) (suc n) s → (first_of es n s).turns ≡ (first_of (e ∷ es) (suc n) s).turns + turns_of e.0.work
dropped_first e es zero s d = ap (λ (t : State). t.turns) (sym (record_applied (reverted e.0 s) e.0 s d.0)) ∙ turns-applied e.0 (reverted e.0 s)
dropped_first e es (suc n) s d = dropped_first e es n (reverted (entry_at es n).0 s) d.1

-- The present place has at least as many turns as the second place.
pub second_below : (first : Bool) (es : List (Atom × Bool)) (at : ℕ) (s : State) (f l : ℕ) → IsJournal es at s → length es ≡ at → HasEnds (journal_history first es at s) f l
    → f + turns_of (entry_at es 0).0.work ≤ s.turns
second_below first [] zero s f l d e h = omega (arith, h.first)
second_below first [] (suc n) s f l d e h = absurd (omega (arith, e))
second_below first (x ∷ es) zero s f l d e h = absurd (omega (arith, e))
second_below first (x ∷ es) (suc n) s f l d e h =
    omega (arith, h.first, journal_first first (x ∷ es) (suc n) s, dropped_first x es n s d.here, first_below es n s (dropped_here x es n s d.here))

full_ends : (first : Bool) (es : List (Atom × Bool)) (most at : ℕ) (s t : State) (a : Atom) (f l : ℕ) → IsJournal es at s → length es ≡ at → at ≡ most → 1 ≤ most → Leads s a t
    → HasEnds (append (journal_history first es at s) t) f t.turns
    → HasEnds (journal_history (entry_at es 0).1 (keep_last most (es ++ (a, false) ∷ [])) at t) (f + turns_of (entry_at es 0).0.work) t.turns
full_ends first [] most at s t a f l d e m some leads h = absurd (omega (arith, e))
full_ends first (x ∷ es) most at s t a f l d e m some leads h =
    let fs : List (Atom × Bool) = es ++ (a, false) ∷ [] in
    let one : length (x ∷ fs) - most ≡ 1 = omega (arith, e, length_push es (a, false)) in
    let none : length fs - at ≡ 0 = omega (arith, e, length_push es (a, false)) in
    let here : LeadHere (x ∷ fs) (suc at) t = rw (add-one at) at (append_kept (x ∷ es) at s t a e leads d).here in
    let more : first_turns (journal_history first (x ∷ fs) (at + 1) t) ≡ first_turns (append (journal_history first (x ∷ es) at s) t) =
    ap first_turns (journal_append first (x ∷ es) at s t a e leads) in
    let whole : (first_of (x ∷ fs) (suc at) t).turns ≡ f = ap (λ k. (first_of (x ∷ fs) k t).turns) (sym (add-one at)) ∙ sym (journal_first first (x ∷ fs) (at + 1) t) ∙ more ∙ sym h.first in
    rw one (record {
      first = sym (journal_first x.1 fs at t ∙ dropped_first x fs at t here ∙ ap (λ k. k + turns_of x.0.work) whole);
      last = rw none refl;
    })

-- The ends after a place is appended; the first place is evicted if the ring is full.
pub pushed_ends : (first : Bool) (es : List (Atom × Bool)) (most at : ℕ) (s t : State) (a : Atom) (f l : ℕ) → IsRing es most at s → length es ≡ at → Leads s a t
    → HasEnds (journal_history first es at s) f l
    → HasEnds (journal_history (if nat_lt at most then first else (entry_at es 0).1) (keep_last most (es ++ (a, false) ∷ [])) (if nat_lt at most then at + 1 else at) t)
    (if nat_lt at most then f else f + turns_of (entry_at es 0).0.work) t.turns
pushed_ends first es most at s t a f l d e leads h = by_room (nat_lt at most) refl
  where
    by_room : (b : Bool) → nat_lt at most ≡ b
        → HasEnds (journal_history (if b then first else (entry_at es 0).1) (keep_last most (es ++ (a, false) ∷ [])) (if b then at + 1 else at) t)
        (if b then f else f + turns_of (entry_at es 0).0.work) t.turns
    by_room true g =
        let none : length (es ++ (a, false) ∷ []) - most ≡ 0 = omega (arith, ltb-true at most g, e, length_push es (a, false)) in
        rw none (journal_ends_append first es at s f l h t a e leads)
    by_room false g =
        full_ends first es most at s t a f l d.journal e (omega (arith, ltb-false at most g, d.within)) d.some leads (ends_append (journal_history first es at s) t f l h)
