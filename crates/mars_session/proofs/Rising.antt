-- Turns never fall along a tape, and rise by at most one from place to place.
-- Each tape derives this from its invariant and states it in two of its methods (`position`, `last_turns`). It lets `goto` stop
-- early: the results of `target_may_precede` and `is_turn_in_history` follow from it, so the walk itself needs no lemma.
use Rattle.std.proofs.Common.{◌≡◌, ℕ, zero, suc, ◌+◌, ◌-◌, ◌<◌, ◌≤◌, inl, inr, Bool, List, length, refl, ap, sym, subst, ◌∙◌, arith, add-one}
use Rattle.mars_core.specs.State.{State}
use Rattle.mars_core.specs.Leads.{Leads}
use Rattle.mars_core.specs.Record.{applied}
use Rattle.mars_core.specs.declared.record.Atom.{Atom}
use Rattle.mars_core.proofs.CallerLemmas.{turns-turn_of, turns-edited}
use Rattle.mars_session.specs.declared.snapshots.Snapshot.{Snapshot}
use Rattle.mars_session.specs.History.{Place, History, rewound, forward, last_place, first_turns, last_turns}
use Rattle.mars_session.specs.Tapes.{RisesFrom, TurnsRise}
use Rattle.mars_session.specs.Code.Journals.{entry_at, journal_after, journal_history, LeadOn, IsJournal}
use Rattle.mars_session.specs.Code.Whole.{place_of, snapshot_at, turns_at, after_of, whole_history, IsWhole}
use Rattle.mars_session.proofs.Copying.{whole_forward}
use Rattle.mars_session.proofs.Stepping.{from_first}
use Rattle.mars_session.proofs.Walking.{rewound_forward, last_turns_rewound}

-- The turns rise from the state `s` along the places `ps`.
abbrev Rise : State → List Place → Type 0
Rise s ps = RisesFrom (λ (t : State). t.turns) s ps

-- A record leads to the same number of turns, or to one more.
pub leads_turns : (s t : State) (a : Atom) → Leads s a t → (s.turns ≤ t.turns) × (t.turns ≤ s.turns + 1)
leads_turns s t a (inl h) = let more : t.turns ≡ s.turns + 1 = ap (λ (x : State). x.turns) h.state_is ∙ turns-turn_of s in (omega (arith, more), omega (arith, more))
leads_turns s t a (inr h) = let same : t.turns ≡ s.turns = ap (λ (x : State). x.turns) h.state_is ∙ turns-edited s h.edit in (omega (arith, same), omega (arith, same))

on_rises : (es : List (Atom × Bool)) (from n : ℕ) (s : State) → LeadOn es from n s → Rise s (journal_after es from n s)
on_rises es from zero s d = tt
on_rises es from (suc n) s d =
    let t : State = applied (entry_at es from).0 s in
    let one = leads_turns s t (entry_at es from).0 d.0 in (one.0, one.1, on_rises es (from + 1) n t d.1)

pub journal_rises : (first : Bool) (es : List (Atom × Bool)) (at : ℕ) (s : State) → IsJournal es at s → TurnsRise (journal_history first es at s)
journal_rises first es at s d =
    let all = from_first first es at s d in
    subst (λ (h : History). Rise h.present.state h.after) (sym all.same) (on_rises es 0 (length es - 0) all.start all.journal.on)

-- Rewinding a tape of whole copies moves its index to 0.
whole_rewound : (ks : List Snapshot) (at len : ℕ) → at < len → rewound (whole_history ks at len) ≡ whole_history ks 0 len
whole_rewound ks zero len l = refl
whole_rewound ks (suc n) len l =
    let on : whole_history ks (suc n) len ≡ forward (whole_history ks n len) = ap (λ k. whole_history ks k len) (sym (add-one n)) ∙ whole_forward ks n len (omega arith) in
    ap rewound on ∙ rewound_forward (whole_history ks n len) ∙ whole_rewound ks n len (omega arith)

copies_rise : (ks : List Snapshot) (at len from n : ℕ) → IsWhole ks at len → from + n < len → Rise (snapshot_at ks from).battle (after_of ks (from + 1) n)
copies_rise ks at len from zero w l = tt
copies_rise ks at len from (suc n) w l =
    let one = w.rises from (omega arith) in (one.0, one.1, copies_rise ks at len (from + 1) n w (omega arith))

pub whole_rises : (ks : List Snapshot) (at len : ℕ) → IsWhole ks at len → TurnsRise (whole_history ks at len)
whole_rises ks at len w =
    subst (λ (h : History). Rise h.present.state h.after) (sym (whole_rewound ks at len w.present)) (copies_rise ks at len 0 (len - (0 + 1)) w (omega (arith, w.present)))

pub whole_first : (ks : List Snapshot) (at len : ℕ) → at < len → first_turns (whole_history ks at len) ≡ turns_at ks 0
whole_first ks at len l = ap (λ (h : History). h.present.state.turns) (whole_rewound ks at len l)

last_copy : (ks : List Snapshot) (from n : ℕ) → last_place (place_of (snapshot_at ks from)) (after_of ks (from + 1) n) ≡ place_of (snapshot_at ks (from + n))
last_copy ks from zero = let same : from + 0 ≡ from = omega arith in rw same refl
last_copy ks from (suc n) = let same : from + suc n ≡ from + 1 + n = omega arith in rw same (last_copy ks (from + 1) n)

pub whole_last : (ks : List Snapshot) (at len : ℕ) → at < len → last_turns (whole_history ks at len) ≡ turns_at ks (len - 1)
whole_last ks at len l =
    let last : 0 + (len - (0 + 1)) ≡ len - 1 = omega arith in
    sym (last_turns_rewound (whole_history ks at len)) ∙ ap last_turns (whole_rewound ks at len l)
    ∙ ap (λ (p : Place). p.state.turns) (last_copy ks 0 (len - (0 + 1))) ∙ ap (turns_at ks) last
