-- What marks, cuts and appends do to the history and the invariant of a tape that evicts.
use Rattle.std.proofs.Common.{◌≡◌, ℕ, ◌+◌, ◌-◌, ◌<◌, ◌≤◌, Bool, true, false, List, [], ◌∷◌, ◌++◌, length, set, take, Some, refl, ap, sym, ◌∙◌, arith, add-one, nat_lt, if◌then◌else◌}
use Rattle.std.specs.Prelude.{◌||◌}
use Rattle.std.proofs.lemmas.List.{length_push, length-take-le}
use Rattle.std.proofs.lemmas.Bool.{ltb-true, ltb-false}
use Rattle.std.proofs.Math.ListN.{length-set}
use Rattle.circular_buffer.specs.Buffer.{Buffer, buffer, keep_last}
use Rattle.mars_core.specs.State.{State}
use Rattle.mars_core.specs.Leads.{Leads}
use Rattle.mars_core.specs.declared.record.Atom.{Atom}
use Rattle.mars_session.specs.Limits.{max_history}
use Rattle.mars_session.specs.History.{Place, History, position_of, marked, append}
use Rattle.mars_session.specs.Retention.{Retention, retained, retention_after}
use Rattle.mars_session.specs.Code.Journals.{entry_at, journal_history, IsJournal, IsRing}
use Rattle.mars_session.proofs.Appending.{take_all}
use Rattle.mars_session.proofs.Stepping.{journal_position, journal_marked, marked_kept, journal_append, append_kept, cut_kept, history_is, dropped_before, dropped_mark, dropped_here}

-- The buffer after the present place is marked: the mark is beside the record that leads to it, if there is one.
abbrev pub marked_buffer : Buffer (Atom × Bool) → ℕ → Buffer (Atom × Bool)
marked_buffer b at = if nat_lt 0 at then buffer (set b.items (at - 1) ((entry_at b.items (at - 1)).0, true)) b.capacity else b

pub ring_marked : (first : Bool) (b : Buffer (Atom × Bool)) (at : ℕ) (s : State) → IsRing b.items b.capacity at s
    → journal_history (if nat_lt 0 at then first else true) (marked_buffer b at).items at s ≡ marked (journal_history first b.items at s)
ring_marked first b at s d = by_place (nat_lt 0 at) refl
  where
    by_place : (later : Bool) → nat_lt 0 at ≡ later
        → journal_history (if later then first else true) (if later then buffer (set b.items (at - 1) ((entry_at b.items (at - 1)).0, true)) b.capacity else b).items at s ≡ marked (journal_history first b.items at s)
    by_place true e = journal_marked first b.items at s (ltb-true 0 at e) d.journal.inside
    by_place false e = let first_place : at ≡ 0 = omega (arith, ltb-false 0 at e) in rw first_place refl

pub marked_ring : (b : Buffer (Atom × Bool)) (at : ℕ) (s : State) → IsRing b.items b.capacity at s → IsRing (marked_buffer b at).items (marked_buffer b at).capacity at s
marked_ring b at s d = by_place (nat_lt 0 at) refl
  where
    by_place : (later : Bool) → nat_lt 0 at ≡ later
        → let c = if later then buffer (set b.items (at - 1) ((entry_at b.items (at - 1)).0, true)) b.capacity else b in IsRing c.items c.capacity at s
    by_place true e =
        let len = length-set b.items (at - 1) ((entry_at b.items (at - 1)).0, true) in
        record { journal = marked_kept b.items at s (ltb-true 0 at e) d.journal; some = d.some; few = d.few; within = rw len d.within }
    by_place false e = d

pub cut_ring : (es : List (Atom × Bool)) (most at : ℕ) (s : State) → IsRing es most at s → IsRing (take at es) most at s
cut_ring es most at s d = record {
  journal = cut_kept es at s d.journal;
  some = d.some;
  few = d.few;
  within = omega (arith, length-take-le at es d.journal.inside, d.journal.inside, d.within);
}

-- Dropping the first record evicts the first place.
dropped_history : (first : Bool) (e : Atom × Bool) (es : List (Atom × Bool)) (at : ℕ) (t : State) → length es ≡ at
    → journal_history e.1 es at t ≡ retained (Some at) (journal_history first (e ∷ es) (at + 1) t)
dropped_history first e es at t l =
    let none : length es - at ≡ 0 = omega arith in
    let none_after : length (e ∷ es) - (at + 1) ≡ 0 = omega (arith, l) in
    rw (none, none_after, add-one at) (history_is t _ _ _ _ _ _ (dropped_before first e es at t) (dropped_mark first e es at) refl)

dropped_ring : (e : Atom × Bool) (es : List (Atom × Bool)) (most at : ℕ) (t : State) → length es ≡ at → at ≤ most → 1 ≤ most → most ≤ max_history → IsJournal (e ∷ es) (at + 1) t → IsRing es most at t
dropped_ring e es most at t l m some few d =
    let none : length es - at ≡ 0 = omega arith in
    record {
      journal = record { inside = omega arith; here = dropped_here e es at t (rw (add-one at) at d.here); on = rw none tt };
      some = some;
      few = few;
      within = omega arith;
    }

-- If there are at most `most` places before the present one, all are kept.
kept_all : (most : ℕ) (h : History) → position_of h ≤ most → retained (Some most) h ≡ h
kept_all most h l = ap (λ (b : List Place). record h { before = b }) (take_all most h.before l)

room_pushed : (first : Bool) (es : List (Atom × Bool)) (most at : ℕ) (s t : State) (a : Atom) → length es ≡ at → at < most → Leads s a t
    → journal_history first (keep_last most (es ++ (a, false) ∷ [])) (at + 1) t ≡ retained (Some most) (append (journal_history first es at s) t)
room_pushed first es most at s t a e l leads =
    let none : length (es ++ (a, false) ∷ []) - most ≡ 0 = omega (arith, length_push es (a, false)) in
    let here : position_of (append (journal_history first es at s) t) ≤ most = omega (arith, journal_position first es at s) in
    rw none (journal_append first es at s t a e leads ∙ sym (kept_all most (append (journal_history first es at s) t) here))

full_pushed : (first : Bool) (es : List (Atom × Bool)) (most at : ℕ) (s t : State) (a : Atom) → length es ≡ at → at ≡ most → 1 ≤ most → Leads s a t
    → journal_history (entry_at es 0).1 (keep_last most (es ++ (a, false) ∷ [])) at t ≡ retained (Some most) (append (journal_history first es at s) t)
full_pushed first [] most at s t a e m some leads = absurd (omega (arith, e))
full_pushed first (x ∷ es) most at s t a e m some leads =
    let one : length ((x ∷ es) ++ (a, false) ∷ []) - most ≡ 1 = omega (arith, e, length_push (x ∷ es) (a, false)) in
    let len : length (es ++ (a, false) ∷ []) ≡ at = omega (arith, e, length_push es (a, false)) in
    rw one (dropped_history first x (es ++ (a, false) ∷ []) at t len
    ∙ rw m (ap (λ (h : History). retained (Some most) h) (rw m at (journal_append first (x ∷ es) at s t a e leads))))

pub ring_pushed : (first : Bool) (es : List (Atom × Bool)) (most at : ℕ) (s t : State) (a : Atom) → IsRing es most at s → length es ≡ at → Leads s a t
    → journal_history (if nat_lt at most then first else (entry_at es 0).1) (keep_last most (es ++ (a, false) ∷ [])) (if nat_lt at most then at + 1 else at) t
    ≡ retained (Some most) (append (journal_history first es at s) t)
ring_pushed first es most at s t a d e leads = by_room (nat_lt at most) refl
  where
    by_room : (b : Bool) → nat_lt at most ≡ b
        → journal_history (if b then first else (entry_at es 0).1) (keep_last most (es ++ (a, false) ∷ [])) (if b then at + 1 else at) t ≡ retained (Some most) (append (journal_history first es at s) t)
    by_room true f = room_pushed first es most at s t a e (ltb-true at most f) leads
    by_room false f = full_pushed first es most at s t a e (omega (arith, ltb-false at most f, d.within)) d.some leads

full_ring : (es : List (Atom × Bool)) (most at : ℕ) (s t : State) (a : Atom) → length es ≡ at → at ≡ most → 1 ≤ most → most ≤ max_history → Leads s a t → IsJournal es at s
    → IsRing (keep_last most (es ++ (a, false) ∷ [])) most at t
full_ring [] most at s t a e m some few leads d = absurd (omega (arith, e))
full_ring (x ∷ es) most at s t a e m some few leads d =
    let one : length ((x ∷ es) ++ (a, false) ∷ []) - most ≡ 1 = omega (arith, e, length_push (x ∷ es) (a, false)) in
    let len : length (es ++ (a, false) ∷ []) ≡ at = omega (arith, e, length_push es (a, false)) in
    rw one (dropped_ring x (es ++ (a, false) ∷ []) most at t len (omega arith) some few (append_kept (x ∷ es) at s t a e leads d))

pub pushed_ring : (es : List (Atom × Bool)) (most at : ℕ) (s t : State) (a : Atom) → IsRing es most at s → length es ≡ at → Leads s a t
    → IsRing (keep_last most (es ++ (a, false) ∷ [])) most (if nat_lt at most then at + 1 else at) t
pushed_ring es most at s t a d e leads = by_room (nat_lt at most) refl
  where
    by_room : (b : Bool) → nat_lt at most ≡ b → IsRing (keep_last most (es ++ (a, false) ∷ [])) most (if b then at + 1 else at) t
    by_room true f =
        let less : at < most = ltb-true at most f in
        let len : length (es ++ (a, false) ∷ []) ≡ length es + 1 = length_push es (a, false) in
        let none : length (es ++ (a, false) ∷ []) - most ≡ 0 = omega (arith, len) in
        rw none (record { journal = append_kept es at s t a e leads d.journal; some = d.some; few = d.few; within = omega (arith, len) })
    by_room false f = full_ring es most at s t a e (omega (arith, ltb-false at most f, d.within)) d.some d.few leads d.journal

pub pushed_memory : (first forgotten : Bool) (es : List (Atom × Bool)) (most at : ℕ) (s t : State)
    → ◌≡◌ {A = Retention} (record { most = Some most; forgotten = forgotten || nat_lt most (at + 1) }) (retention_after (record { most = Some most; forgotten = forgotten }) (append (journal_history first es at s) t))
pushed_memory first forgotten es most at s t =
    let more : position_of (append (journal_history first es at s) t) ≡ at + 1 = omega (arith, journal_position first es at s) in
    rw more refl
