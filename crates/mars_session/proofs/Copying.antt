-- What steps, marks and appends do to a list of copies, its history and its invariant.
use Rattle.std.proofs.lemmas.Bool.{eqb-true, eqb-false}
use Rattle.std.proofs.Math.ListN.{length-set}
use Rattle.std.proofs.Common.{Bool, nat_eq, ◌≡◌, ◌≢◌, ℕ, zero, suc, ◌+◌, ◌-◌, ◌<◌, ◌≤◌, true, false, List, ◌++◌, length, get_or, set, take, drop, refl, ap, sym, ◌∙◌, arith, add-one}
use Rattle.std.proofs.lemmas.List.{get_or-set_same, get_or-set_other, get_or_read, get_or_append_left, set-append_right, set-set, take_at}
use Rattle.mars_core.specs.State.{State}
use Rattle.mars_core.specs.Shape.{SameShape}
use Rattle.mars_session.specs.declared.snapshots.Snapshot.{Snapshot}
use Rattle.mars_session.specs.History.{position_of, following, marked, append, back, forward}
use Rattle.mars_session.specs.Code.Whole.{nowhere, snapshot_at, turns_at, before_of, after_of, whole_history, IsWhole, IsGrown}

before_length : (ks : List Snapshot) (n : ℕ) → length (before_of ks n) ≡ n
before_length ks zero = refl
before_length ks (suc n) = ap suc (before_length ks n)

after_length : (ks : List Snapshot) (from n : ℕ) → length (after_of ks from n) ≡ n
after_length ks from zero = refl
after_length ks from (suc n) = ap suc (after_length ks (from + 1) n)

pub whole_position : (ks : List Snapshot) (at len : ℕ) → position_of (whole_history ks at len) ≡ at
whole_position ks at len = before_length ks at

pub whole_following : (ks : List Snapshot) (at len : ℕ) → following (whole_history ks at len) ≡ len - (at + 1)
whole_following ks at len = after_length ks (at + 1) (len - (at + 1))

-- Moving the index back by one is one step back in the history.
pub whole_back : (ks : List Snapshot) (at len : ℕ) → 0 < at → at < len → whole_history ks (at - 1) len ≡ back (whole_history ks at len)
whole_back ks zero len l m = absurd (omega arith)
whole_back ks (suc n) len l m =
    let e : suc n - 1 ≡ n = omega arith in
    let more : len - (n + 1) ≡ suc (len - (suc n + 1)) = omega arith in
    rw (e, more, add-one n) refl

-- Lists of copies that agree make the same places.
before_same : (ks js : List Snapshot) (n : ℕ) → ((k : ℕ) → k < n → snapshot_at js k ≡ snapshot_at ks k) → before_of js n ≡ before_of ks n
before_same ks js zero h = refl
before_same ks js (suc n) h =
    let here : snapshot_at js n ≡ snapshot_at ks n = h n (omega arith) in
    rw (here, before_same ks js n (λ k l. h k (omega arith))) refl

after_same : (ks js : List Snapshot) (from n : ℕ) → ((k : ℕ) → from ≤ k → k < from + n → snapshot_at js k ≡ snapshot_at ks k) → after_of js from n ≡ after_of ks from n
after_same ks js from zero h = refl
after_same ks js from (suc n) h =
    let here : snapshot_at js from ≡ snapshot_at ks from = h from (omega arith) (omega arith) in
    rw (here, after_same ks js (from + 1) n (λ k l m. h k (omega arith) (omega arith))) refl

pub whole_same : (ks js : List Snapshot) (at len : ℕ) → at < len → ((k : ℕ) → k < len → snapshot_at js k ≡ snapshot_at ks k) → whole_history js at len ≡ whole_history ks at len
whole_same ks js at len l h =
    let here : snapshot_at js at ≡ snapshot_at ks at = h at l in
    rw (here, before_same ks js at (λ k m. h k (omega arith)), after_same ks js (at + 1) (len - (at + 1)) (λ k m n. h k (omega arith))) refl

pub whole_grown : (ks js : List Snapshot) (at len : ℕ) → at < len → len ≤ length ks → IsGrown ks js at → whole_history js at len ≡ whole_history ks at len
whole_grown ks js at len l m g = whole_same ks js at len l (λ k n. g.kept k (omega arith))

-- Marking the copy at the index marks the present place.
pub whole_marked : (ks : List Snapshot) (at len : ℕ) → at < length ks → whole_history (set ks at (record { battle = (snapshot_at ks at).battle; mark = true })) at len ≡ marked (whole_history ks at len)
whole_marked ks at len l =
    let kept : Snapshot = record { battle = (snapshot_at ks at).battle; mark = true } in
    rw (
      get_or-set_same ks at kept nowhere l,
      before_same ks (set ks at kept) at (λ k m. get_or-set_other ks at k kept nowhere (omega arith)),
      after_same ks (set ks at kept) (at + 1) (len - (at + 1)) (λ k m n. get_or-set_other ks at k kept nowhere (omega arith)),
    ) refl

-- Writing the copy after the present one appends a place, which is the present one then.
pub whole_append : (ks : List Snapshot) (at len : ℕ) (s : State) → at + 1 < length ks
    → whole_history (set ks (at + 1) (record { battle = s; mark = false })) (at + 1) (at + 1 + 1) ≡ append (whole_history ks at len) s
whole_append ks at len s l =
    let kept : Snapshot = record { battle = s; mark = false } in
    let none : at + 1 + 1 - (at + 1 + 1) ≡ 0 = omega arith in
    let same : snapshot_at (set ks (at + 1) kept) at ≡ snapshot_at ks at = get_or-set_other ks (at + 1) at kept nowhere (omega arith) in
    rw (get_or-set_same ks (at + 1) kept nowhere l, none, add-one at)
    (rw (rw (add-one at) at same, before_same ks (set ks (suc at) kept) at (λ k m. get_or-set_other ks (suc at) k kept nowhere (omega arith))) refl)

pub whole_forward : (ks : List Snapshot) (at len : ℕ) → at + 1 < len → whole_history ks (at + 1) len ≡ forward (whole_history ks at len)
whole_forward ks at len l =
    let more : len - (at + 1) ≡ suc (len - (at + 1 + 1)) = omega arith in
    rw (more, add-one at) refl

-- Writing the first element after a front part, as an update of the whole list.
pub next_written : (front back : List Snapshot) (x : Snapshot) (n : ℕ) → length front ≡ n → front ++ set back 0 x ≡ set (front ++ back) n x
next_written front back x n e =
    let none : n - n ≡ 0 = omega arith in
    sym (set-append_right front back n n x e (omega arith) ∙ ap (λ k. front ++ set back k x) none)

-- A copy that was read from the front part is a copy of the whole list.
pub read_of_front : (front back : List Snapshot) (x : Snapshot) (at : ℕ) → at < length front → x ≡ get_or front at x → x ≡ snapshot_at (front ++ back) at
read_of_front front back x at l e = get_or_read front at x l e nowhere ∙ sym (get_or_append_left front back nowhere at l)

-- A Vec whose slice was borrowed has the items that the borrow left in the slice.
pub refilled : (n : ℕ) (xs ys : List Snapshot) → length ys ≡ n → take n (ys ++ drop (length ys) xs) ≡ ys
refilled n xs ys e = take_at ys (drop (length ys) xs) n e

-- The copy after the present one was overwritten by the present one, and then changed.
pub changed_on : (n : ℕ) (items new : List Snapshot) (at : ℕ) (s t battle : State) (kept : Snapshot) → at + 1 < length items → length new ≡ n
    → new ≡ set items (at + 1) (record { battle = s; mark = false })
    → kept ≡ get_or (take n (new ++ drop (length new) items)) (at + 1) kept → (kept.battle ≡ s → battle ≡ t)
    → set (take n (new ++ drop (length new) items)) (at + 1) (record { battle = battle; mark = kept.mark }) ≡ set items (at + 1) (record { battle = t; mark = false })
changed_on n items new at s t battle kept l len is read change =
    let x : Snapshot = record { battle = s; mark = false } in
    let filled : take n (new ++ drop (length new) items) ≡ set items (at + 1) x = refilled n items new len ∙ is in
    let read_x : kept ≡ get_or (set items (at + 1) x) (at + 1) kept = rw filled at read in
    let same : kept ≡ x = read_x ∙ get_or-set_same items (at + 1) x kept l in
    let now : battle ≡ t = change (ap (λ (k : Snapshot). k.battle) same) in
    rw (filled, ap (λ (k : Snapshot). k.mark) same, now) (set-set items (at + 1) x (record { battle = t; mark = false }))

shape_sym : (s t : State) → SameShape s t → SameShape t s
shape_sym s t h = record { params = sym h.params; warriors = sym h.warriors }

shape_trans : (s t u : State) → SameShape s t → SameShape t u → SameShape s u
shape_trans s t u h k = record { params = h.params ∙ k.params; warriors = h.warriors ∙ k.warriors }

-- If one copy is overwritten by one of the same shape, each copy still has the shape that all had.
shape_set : (ks : List Snapshot) (n i : ℕ) (x : Snapshot) (u : State) (b : Bool) → nat_eq i n ≡ b → n < length ks → SameShape x.battle u → SameShape (snapshot_at ks i).battle u
    → SameShape (snapshot_at (set ks n x) i).battle u
shape_set ks n i x u true e l h k =
    let same : i ≡ n = eqb-true i n e in
    rw same (rw (get_or-set_same ks n x nowhere l) h)
shape_set ks n i x u false e l h k = rw (get_or-set_other ks n i x nowhere (eqb-false i n e)) k

-- If the copy after the present one is overwritten and becomes the last place, turns still rise by at most one.
rises_set : (ks : List Snapshot) (at len : ℕ) (x : Snapshot) → IsWhole ks at len → at + 1 < length ks → (turns_at ks at ≤ x.battle.turns) × (x.battle.turns ≤ turns_at ks at + 1)
    → (i : ℕ) → i + 1 < at + 1 + 1 → (turns_at (set ks (at + 1) x) i ≤ turns_at (set ks (at + 1) x) (i + 1)) × (turns_at (set ks (at + 1) x) (i + 1) ≤ turns_at (set ks (at + 1) x) i + 1)
rises_set ks at len x w l h i m = by_place (nat_eq i at) refl
  where
    by_place : (b : Bool) → nat_eq i at ≡ b → (turns_at (set ks (at + 1) x) i ≤ turns_at (set ks (at + 1) x) (i + 1)) × (turns_at (set ks (at + 1) x) (i + 1) ≤ turns_at (set ks (at + 1) x) i + 1)
    by_place true e =
        let last : i ≡ at = eqb-true i at e in
        let here : turns_at (set ks (at + 1) x) i ≡ turns_at ks at = ap (λ (k : Snapshot). k.battle.turns) (get_or-set_other ks (at + 1) i x nowhere (omega (arith, m))) ∙ ap (turns_at ks) last in
        let next : turns_at (set ks (at + 1) x) (i + 1) ≡ x.battle.turns =
        ap (λ j. turns_at (set ks (at + 1) x) (j + 1)) last ∙ ap (λ (k : Snapshot). k.battle.turns) (get_or-set_same ks (at + 1) x nowhere l) in
        (omega (arith, here, next, h.0), omega (arith, here, next, h.1))
    by_place false e =
        let differs : i ≢ at = eqb-false i at e in
        let here : turns_at (set ks (at + 1) x) i ≡ turns_at ks i = ap (λ (k : Snapshot). k.battle.turns) (get_or-set_other ks (at + 1) i x nowhere (omega (arith, m))) in
        let next : turns_at (set ks (at + 1) x) (i + 1) ≡ turns_at ks (i + 1) = ap (λ (k : Snapshot). k.battle.turns) (get_or-set_other ks (at + 1) (i + 1) x nowhere (omega (arith, differs, m))) in
        let one = w.rises i (omega (arith, differs, m, w.present)) in
        (omega (arith, here, next, one.0), omega (arith, here, next, one.1))

-- The invariant holds if the tape moves on to the copy after the present one, which has the same shape, and as many turns or
-- one more.
pub whole_more : (ks : List Snapshot) (at len : ℕ) (s : State) → IsWhole ks at len → at + 1 < length ks → SameShape s (snapshot_at ks at).battle
    → (turns_at ks at ≤ s.turns) × (s.turns ≤ turns_at ks at + 1)
    → IsWhole (set ks (at + 1) (record { battle = s; mark = false })) (at + 1) (at + 1 + 1)
whole_more ks at len s w l h more =
    let x : Snapshot = record { battle = s; mark = false } in
    let u = (snapshot_at ks at).battle in
    let count = length-set ks (at + 1) x in
    let each : (i : ℕ) → i < length (set ks (at + 1) x) → SameShape (snapshot_at (set ks (at + 1) x) i).battle u =
    λ i m. shape_set ks (at + 1) i x u (nat_eq i (at + 1)) refl l h (w.shapes i at (omega (arith, count, m)) (omega arith)) in
    record {
      present = omega arith;
      copies = omega (arith, count);
      rises = rises_set ks at len x w l more;
      shapes = λ i j m n. shape_trans _ _ _ (each i m) (shape_sym _ _ (each j n));
    }
