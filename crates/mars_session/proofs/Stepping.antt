-- What moves, marks, cuts and appends do to a list of records, its history and its invariant.
use Rattle.std.proofs.Common.{◌≡◌, ℕ, zero, suc, ◌+◌, ◌-◌, ◌<◌, ◌≤◌, ◌≢◌, Bool, true, false, List, [], ◌∷◌, ◌++◌, length, get_or, set, take, refl, ap, sym, subst, ◌∙◌, arith, add-one, nat_eq}
use Rattle.std.proofs.lemmas.List.{get_or-set_same, get_or-set_other, get_or-take, get_or_append_left, get_or_push, get_or_read, length_push, length-take-le}
use Rattle.std.proofs.Math.ListN.{length-set}
use Rattle.std.proofs.lemmas.Bool.{eqb-true, eqb-false}
use Rattle.mars_core.specs.State.{State}
use Rattle.mars_core.specs.Leads.{Leads}
use Rattle.mars_core.specs.Record.{reverted, applied}
use Rattle.mars_core.specs.declared.record.Atom.{Atom}
use Rattle.mars_core.proofs.CallerLemmas.{record_reverted, record_applied}
use Rattle.mars_session.specs.History.{Place, History, position_of, following, last_of, places, marked, cut, append, back, forward, rewound}
use Rattle.mars_session.specs.Code.Journals.{no_entry, entry_at, mark_at, journal_before, journal_after, journal_history, LeadHere, LeadOn, IsJournal}
use Rattle.mars_session.specs.Tapes.{LeadsFrom, LeadsAt}
use Rattle.mars_session.proofs.Places.{places_rewound}

before_length : (first : Bool) (es : List (Atom × Bool)) (n : ℕ) (s : State) → length (journal_before first es n s) ≡ n
before_length first es zero s = refl
before_length first es (suc n) s = ap suc (before_length first es n (reverted (entry_at es n).0 s))

after_length : (es : List (Atom × Bool)) (from n : ℕ) (s : State) → length (journal_after es from n s) ≡ n
after_length es from zero s = refl
after_length es from (suc n) s = ap suc (after_length es (from + 1) n (applied (entry_at es from).0 s))

pub journal_position : (first : Bool) (es : List (Atom × Bool)) (at : ℕ) (s : State) → position_of (journal_history first es at s) ≡ at
journal_position first es at s = before_length first es at s

pub journal_following : (first : Bool) (es : List (Atom × Bool)) (at : ℕ) (s : State) → following (journal_history first es at s) ≡ length es - at
journal_following first es at s = after_length es at (length es - at) s

pub journal_last : (first : Bool) (es : List (Atom × Bool)) (at : ℕ) (s : State) → at ≤ length es → last_of (journal_history first es at s) ≡ length es
journal_last first es at s l = omega (arith, before_length first es at s, after_length es at (length es - at) s)

-- Reverting the record that led to the present place is one step back in the history.
pub journal_back : (first : Bool) (es : List (Atom × Bool)) (at : ℕ) (s : State) → 0 < at → IsJournal es at s
    → journal_history first es (at - 1) (reverted (entry_at es (at - 1)).0 s) ≡ back (journal_history first es at s)
journal_back first es zero s l d = absurd (omega arith)
journal_back first es (suc n) s l d =
    let e : suc n - 1 ≡ n = omega arith in
    let more : length es - n ≡ suc (length es - suc n) = omega (arith, d.inside) in
    let again = record_applied (reverted (entry_at es n).0 s) (entry_at es n).0 s d.here.0 in
    rw (e, more, again, add-one n) refl

pub back_kept : (es : List (Atom × Bool)) (at : ℕ) (s : State) → 0 < at → IsJournal es at s → IsJournal es (at - 1) (reverted (entry_at es (at - 1)).0 s)
back_kept es zero s l d = absurd (omega arith)
back_kept es (suc n) s l d =
    let e : suc n - 1 ≡ n = omega arith in
    let more : length es - n ≡ suc (length es - suc n) = omega (arith, d.inside) in
    let again = record_applied (reverted (entry_at es n).0 s) (entry_at es n).0 s d.here.0 in
    rw e (record { inside = omega (arith, d.inside); here = d.here.1; on = rw (more, again, add-one n) (d.here.0, d.on) })

-- Applying the next record is one step forward in the history.
pub journal_forward : (first : Bool) (es : List (Atom × Bool)) (at : ℕ) (s : State) → at < length es → IsJournal es at s
    → journal_history first es (at + 1) (applied (entry_at es at).0 s) ≡ forward (journal_history first es at s)
journal_forward first es at s l d =
    let more : length es - at ≡ suc (length es - (at + 1)) = omega arith in
    let leads : Leads s (entry_at es at).0 (applied (entry_at es at).0 s) = (rw more at d.on).0 in
    let again = record_reverted s (entry_at es at).0 (applied (entry_at es at).0 s) leads in
    rw (more, add-one at, again) refl

pub forward_kept : (es : List (Atom × Bool)) (at : ℕ) (s : State) → at < length es → IsJournal es at s → IsJournal es (at + 1) (applied (entry_at es at).0 s)
forward_kept es at s l d =
    let more : length es - at ≡ suc (length es - (at + 1)) = omega arith in
    let on = rw more at d.on in
    let again = record_reverted s (entry_at es at).0 (applied (entry_at es at).0 s) on.0 in
    record { inside = omega arith; here = rw (add-one at, again) (on.0, d.here); on = on.1 }

-- Lists whose records and marks agree make the same places.
before_same : (first : Bool) (es fs : List (Atom × Bool)) (n : ℕ) (s : State) → ((k : ℕ) → k < n → (entry_at fs k).0 ≡ (entry_at es k).0)
    → ((k : ℕ) → k < n → mark_at first fs k ≡ mark_at first es k) → journal_before first fs n s ≡ journal_before first es n s
before_same first es fs zero s h m = refl
before_same first es fs (suc n) s h m =
    rw (h n (omega arith), m n (omega arith), before_same first es fs n (reverted (entry_at es n).0 s) (λ k l. h k (omega arith)) (λ k l. m k (omega arith))) refl

after_same : (es fs : List (Atom × Bool)) (from n : ℕ) (s : State) → ((k : ℕ) → from ≤ k → entry_at fs k ≡ entry_at es k) → journal_after fs from n s ≡ journal_after es from n s
after_same es fs from zero s h = refl
after_same es fs from (suc n) s h =
    rw (h from (omega arith), after_same es fs (from + 1) n (applied (entry_at es from).0 s) (λ k l. h k (omega arith))) refl

here_same : (es fs : List (Atom × Bool)) (n : ℕ) (s : State) → ((k : ℕ) → k < n → (entry_at fs k).0 ≡ (entry_at es k).0) → LeadHere es n s → LeadHere fs n s
here_same es fs zero s h d = tt
here_same es fs (suc n) s h d =
    rw (h n (omega arith)) (d.0, here_same es fs n (reverted (entry_at es n).0 s) (λ k l. h k (omega arith)) d.1)

on_same : (es fs : List (Atom × Bool)) (from n : ℕ) (s : State) → ((k : ℕ) → from ≤ k → entry_at fs k ≡ entry_at es k) → LeadOn es from n s → LeadOn fs from n s
on_same es fs from zero s h d = tt
on_same es fs from (suc n) s h d =
    rw (h from (omega arith)) (d.0, on_same es fs (from + 1) n (applied (entry_at es from).0 s) (λ k l. h k (omega arith)) d.1)

-- Changing a mark keeps all records.
marked_entry : (es : List (Atom × Bool)) (i k : ℕ) (m : Bool) → i < length es → (entry_at (set es i ((entry_at es i).0, m)) k).0 ≡ (entry_at es k).0
marked_entry es i k m l = same_or (nat_eq k i) refl
  where
    same_or : (b : Bool) → nat_eq k i ≡ b → (entry_at (set es i ((entry_at es i).0, m)) k).0 ≡ (entry_at es k).0
    same_or true e = let here : k ≡ i = eqb-true k i e in rw here (ap (λ (x : Atom × Bool). x.0) (get_or-set_same es i ((entry_at es i).0, m) no_entry l))
    same_or false e = let other : k ≢ i = eqb-false k i e in ap (λ (x : Atom × Bool). x.0) (get_or-set_other es i k ((entry_at es i).0, m) no_entry other)

-- Changing entry `i` keeps the marks of all places except the one after it.
marked_other : (first : Bool) (es : List (Atom × Bool)) (i k : ℕ) (x : Atom × Bool) → k ≢ suc i → mark_at first (set es i x) k ≡ mark_at first es k
marked_other first es i zero x n = refl
marked_other first es i (suc k) x n = ap (λ (y : Atom × Bool). y.1) (get_or-set_other es i k x no_entry (λ e. n (ap suc e)))

-- Histories with equal parts are equal.
pub history_is : (s : State) (before before' : List Place) (mark mark' : Bool) (after after' : List Place) → before ≡ before' → mark ≡ mark' → after ≡ after'
    → ◌≡◌ {A = History} (record { before = before; present = record { state = s; mark = mark }; after = after }) (record { before = before'; present = record { state = s; mark = mark' }; after = after' })
history_is s before before' mark mark' after after' b m a = rw (b, m, a) refl

-- Setting the mark beside the record that led to the present place marks this place.
pub journal_marked : (first : Bool) (es : List (Atom × Bool)) (at : ℕ) (s : State) → 0 < at → at ≤ length es
    → journal_history first (set es (at - 1) ((entry_at es (at - 1)).0, true)) at s ≡ marked (journal_history first es at s)
journal_marked first es zero s l p = absurd (omega arith)
journal_marked first es (suc n) s l p =
    let e : suc n - 1 ≡ n = omega arith in
    let inside : n < length es = omega arith in
    let x : Atom × Bool = ((entry_at es n).0, true) in
    let here : mark_at first (set es n x) (suc n) ≡ true = ap (λ (y : Atom × Bool). y.1) (get_or-set_same es n x no_entry inside) in
    let len : length (set es n x) ≡ length es = length-set es n x in
    let before = before_same first es (set es n x) (suc n) s (λ k m. marked_entry es n k true inside) (λ k m. marked_other first es n k x (omega arith)) in
    let after = after_same es (set es n x) (suc n) (length es - suc n) s (λ k m. get_or-set_other es n k x no_entry (omega arith)) in
    let at_n : journal_history first (set es n x) (suc n) s ≡ marked (journal_history first es (suc n) s) = history_is s _ _ _ _ _ _ before here (rw len after) in
    subst (λ (i : ℕ). journal_history first (set es i ((entry_at es i).0, true)) (suc n) s ≡ marked (journal_history first es (suc n) s)) (sym e) at_n

pub marked_kept : (es : List (Atom × Bool)) (at : ℕ) (s : State) → 0 < at → IsJournal es at s → IsJournal (set es (at - 1) ((entry_at es (at - 1)).0, true)) at s
marked_kept es zero s l d = absurd (omega arith)
marked_kept es (suc n) s l d =
    let e : suc n - 1 ≡ n = omega arith in
    let inside : n < length es = omega (arith, d.inside) in
    let x : Atom × Bool = ((entry_at es n).0, true) in
    let len : length (set es n x) ≡ length es = length-set es n x in
    rw e (record {
      inside = rw len d.inside;
      here = here_same es (set es n x) (suc n) s (λ k m. marked_entry es n k true inside) d.here;
      on = rw len (on_same es (set es n x) (suc n) (length es - suc n) s (λ k m. get_or-set_other es n k x no_entry (omega arith)) d.on);
    })

-- The first part of a list has the same entries up to its end.
taken_entry : (es : List (Atom × Bool)) (at k : ℕ) → k < at → (entry_at (take at es) k).0 ≡ (entry_at es k).0
taken_entry es at k l = ap (λ (y : Atom × Bool). y.0) (get_or-take at es k no_entry l)

taken_mark : (first : Bool) (es : List (Atom × Bool)) (at k : ℕ) → k ≤ at → mark_at first (take at es) k ≡ mark_at first es k
taken_mark first es at zero l = refl
taken_mark first es at (suc k) l = ap (λ (y : Atom × Bool). y.1) (get_or-take at es k no_entry (omega arith))

pub journal_cut : (first : Bool) (es : List (Atom × Bool)) (at : ℕ) (s : State) → at ≤ length es → journal_history first (take at es) at s ≡ cut (journal_history first es at s)
journal_cut first es at s p =
    let none : length (take at es) - at ≡ 0 = omega (arith, length-take-le at es p) in
    rw (none, taken_mark first es at at (omega arith), before_same first es (take at es) at s (λ k m. taken_entry es at k m) (λ k m. taken_mark first es at k (omega arith))) refl

pub cut_kept : (es : List (Atom × Bool)) (at : ℕ) (s : State) → IsJournal es at s → IsJournal (take at es) at s
cut_kept es at s d =
    let len : length (take at es) ≡ at = length-take-le at es d.inside in
    let none : length (take at es) - at ≡ 0 = omega (arith, len) in
    record { inside = omega (arith, len); here = here_same es (take at es) at s (λ k m. taken_entry es at k m) d.here; on = rw none tt }

-- Appending an entry keeps the entries before it.
pushed_entry : (es : List (Atom × Bool)) (x : Atom × Bool) (k : ℕ) → k < length es → (entry_at (es ++ x ∷ []) k).0 ≡ (entry_at es k).0
pushed_entry es x k l = ap (λ (y : Atom × Bool). y.0) (get_or_append_left es (x ∷ []) no_entry k l)

pushed_mark : (first : Bool) (es : List (Atom × Bool)) (x : Atom × Bool) (k : ℕ) → k ≤ length es → mark_at first (es ++ x ∷ []) k ≡ mark_at first es k
pushed_mark first es x zero l = refl
pushed_mark first es x (suc k) l = ap (λ (y : Atom × Bool). y.1) (get_or_append_left es (x ∷ []) no_entry k (omega arith))

-- Appending a record that leads to `t` appends the place with the state `t`.
pub journal_append : (first : Bool) (es : List (Atom × Bool)) (at : ℕ) (s t : State) (a : Atom) → length es ≡ at → Leads s a t
    → journal_history first (es ++ (a, false) ∷ []) (at + 1) t ≡ append (journal_history first es at s) t
journal_append first es at s t a e leads =
    let fs : List (Atom × Bool) = es ++ (a, false) ∷ [] in
    let none : length fs - (at + 1) ≡ 0 = omega (arith, length_push es (a, false)) in
    let read : (entry_at fs at).0 ≡ a = ap (λ (y : Atom × Bool). y.0) (get_or_push es (a, false) no_entry at e) in
    let again = record_reverted s a t leads in
    let unmarked : mark_at first fs (suc at) ≡ false = ap (λ (y : Atom × Bool). y.1) (get_or_push es (a, false) no_entry at e) in
    rw (none, add-one at) (rw (
      unmarked,
      read,
      again,
      pushed_mark first es (a, false) at (omega arith),
      before_same first es fs at s (λ k m. pushed_entry es (a, false) k (omega arith)) (λ k m. pushed_mark first es (a, false) k (omega arith)),
    ) refl)

pub append_kept : (es : List (Atom × Bool)) (at : ℕ) (s t : State) (a : Atom) → length es ≡ at → Leads s a t → IsJournal es at s → IsJournal (es ++ (a, false) ∷ []) (at + 1) t
append_kept es at s t a e leads d =
    let fs : List (Atom × Bool) = es ++ (a, false) ∷ [] in
    let len : length fs ≡ length es + 1 = length_push es (a, false) in
    let none : length fs - (at + 1) ≡ 0 = omega arith in
    let read : (entry_at fs at).0 ≡ a = ap (λ (y : Atom × Bool). y.0) (get_or_push es (a, false) no_entry at e) in
    let again = record_reverted s a t leads in
    record {
      inside = omega arith;
      here = rw (add-one at) (rw (read, again) (leads, here_same es fs at s (λ k m. pushed_entry es (a, false) k (omega arith)) d.here));
      on = rw none tt;
    }

-- The record at index `at - 1` leads to the present place.
pub leads_here : (es : List (Atom × Bool)) (at : ℕ) (s : State) → 0 < at → LeadHere es at s → Leads (reverted (entry_at es (at - 1)).0 s) (entry_at es (at - 1)).0 s
leads_here es zero s l d = absurd (omega arith)
leads_here es (suc n) s l d = let e : suc n - 1 ≡ n = omega arith in rw e d.0

-- The next record leads from the present place to the next one.
pub leads_on : (es : List (Atom × Bool)) (at : ℕ) (s : State) → at < length es → LeadOn es at (length es - at) s → Leads s (entry_at es at).0 (applied (entry_at es at).0 s)
leads_on es at s l d = let more : length es - at ≡ suc (length es - (at + 1)) = omega arith in (rw more at d).0

-- Reverting the record that led to the present place gives the state before it.
pub gone_back : (es : List (Atom × Bool)) (at : ℕ) (s t : State) (a : Atom) → 0 < at → LeadHere es at s → a ≡ (entry_at es (at - 1)).0
    → ((before : State) → Leads before a s → t ≡ before) → t ≡ reverted (entry_at es (at - 1)).0 s
gone_back es at s t a l d read is = is (reverted (entry_at es (at - 1)).0 s) (rw read (leads_here es at s l d))

-- Applying the next record gives the state after it.
pub gone_on : (es : List (Atom × Bool)) (at : ℕ) (s t : State) (a : Atom) → at < length es → LeadOn es at (length es - at) s → a ≡ (entry_at es at).0
    → ((after : State) → Leads s a after → t ≡ after) → t ≡ applied (entry_at es at).0 s
gone_on es at s t a l d read is = is (applied (entry_at es at).0 s) (rw read (leads_on es at s l d))

-- A pair that was read at index `i` has the record of the entry at `i`.
pub read_entry : (es : List (Atom × Bool)) (i : ℕ) (x : Atom × Bool) → i < length es → x ≡ get_or es i x → x.0 ≡ (entry_at es i).0
read_entry es i x l e = ap (λ (y : Atom × Bool). y.0) (get_or_read es i x l e no_entry)

-- Records that lead on from a place lead along the places after it.
leads_after : (es : List (Atom × Bool)) (from n : ℕ) (s : State) (mark : Bool) (i : ℕ) → i < n → LeadOn es from n s
    → LeadsFrom (record { state = s; mark = mark }) (journal_after es from n s) i (entry_at es (from + i)).0
leads_after es from zero s mark i l d = absurd (omega arith)
leads_after es from (suc n) s mark zero l d = let e : from + 0 ≡ from = omega arith in rw e d.0
leads_after es from (suc n) s mark (suc i) l d =
    let e : from + suc i ≡ from + 1 + i = omega arith in
    rw e (leads_after es (from + 1) n (applied (entry_at es from).0 s) (entry_at es from).1 i (omega arith) d.1)

-- The history from its first place: the state of that place, and the records that lead on from it.
pub record FromFirst (first : Bool) (es : List (Atom × Bool)) (at : ℕ) (s : State) : Type 0 where
  pub start : State
  pub journal : IsJournal es 0 start
  pub same : rewound (journal_history first es at s) ≡ journal_history first es 0 start

pub from_first : (first : Bool) (es : List (Atom × Bool)) (at : ℕ) (s : State) → IsJournal es at s → FromFirst first es at s
from_first first es zero s d = record { start = s; journal = d; same = refl }
from_first first es (suc n) s d =
    let e : suc n - 1 ≡ n = omega arith in
    let kept : IsJournal es n (reverted (entry_at es n).0 s) = rw e at (back_kept es (suc n) s (omega arith) d) in
    let moved : journal_history first es n (reverted (entry_at es n).0 s) ≡ back (journal_history first es (suc n) s) = rw e at (journal_back first es (suc n) s (omega arith) d) in
    let rest = from_first first es n (reverted (entry_at es n).0 s) kept in
    record { start = rest.start; journal = rest.journal; same = ap rewound (sym moved) ∙ rest.same }

-- Each record leads from its place to the next one.
pub journal_leads : (first : Bool) (es : List (Atom × Bool)) (at : ℕ) (s : State) (i : ℕ) → IsJournal es at s → i < length es
    → LeadsAt (places (journal_history first es at s)) i (entry_at es i).0
journal_leads first es at s i d l =
    let all = from_first first es at s d in
    let h : History = journal_history first es at s in
    let same : places h ≡ places (journal_history first es 0 all.start) = sym (places_rewound h.before h.present h.after) ∙ ap places all.same in
    let e : 0 + i ≡ i = omega arith in
    rw same (rw e at (leads_after es 0 (length es - 0) all.start first i (omega (arith, l)) all.journal.on))

-- Dropping the first record drops the first place, which is the last one in the list of the places before.
pub dropped_before : (first : Bool) (e : Atom × Bool) (es : List (Atom × Bool)) (n : ℕ) (s : State) → journal_before e.1 es n s ≡ take n (journal_before first (e ∷ es) (suc n) s)
dropped_before first e es zero s = refl
dropped_before first e es (suc zero) s = refl
dropped_before first e es (suc (suc n)) s =
    ap (λ (ps : List Place). record { state = reverted (entry_at es (suc n)).0 s; mark = (entry_at es n).1 } ∷ ps) (dropped_before first e es (suc n) (reverted (entry_at es (suc n)).0 s))

pub dropped_mark : (first : Bool) (e : Atom × Bool) (es : List (Atom × Bool)) (n : ℕ) → mark_at e.1 es n ≡ mark_at first (e ∷ es) (suc n)
dropped_mark first e es zero = refl
dropped_mark first e es (suc n) = refl

pub dropped_here : (e : Atom × Bool) (es : List (Atom × Bool)) (n : ℕ) (s : State) → LeadHere (e ∷ es) (suc n) s → LeadHere es n s
dropped_here e es zero s d = tt
dropped_here e es (suc n) s d = (d.0, dropped_here e es n (reverted (entry_at es n).0 s) d.1)
