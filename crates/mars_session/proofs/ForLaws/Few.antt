-- If the oldest places are evicted, undo and redo find the same places as if all places were kept, unless they need an
-- evicted place.
use Rattle.std.proofs.Common.{◌≡◌, ℕ, zero, suc, ◌+◌, ◌-◌, ◌≤◌, Bool, true, false, List, [], ◌∷◌, length, map, take, replicate, Option, Some, None, Result, Ok, Err, refl, ap, sym, ◌∙◌, arith, ◌⊎◌, inl, inr, if◌then◌else◌}
use Rattle.std.specs.Prelude.{option_and_then, IsOk, IsErr, IsTrue}
use Rattle.std.specs.List.{list_all}
use Rattle.std.proofs.lemmas.Bool.{and_parts}
use Rattle.mars_core.specs.State.{State}
use Rattle.mars_session.specs.declared.calls.Call.{Call}
use Rattle.mars_session.specs.declared.calls.Call.TheVariants.{Undo, Redo}
use Rattle.mars_session.specs.declared.calls.Standing.{Standing}
use Rattle.mars_session.specs.declared.calls.Refusal.{Refusal}
use Rattle.mars_session.specs.declared.calls.Refusal.TheVariants.{NothingToRedo}
use Rattle.mars_session.specs.History.{Place, History, position_of, marked, cut, append, append_all, after_command, marked_before, undo, marked_after, redo}
use Rattle.mars_session.specs.Retention.{Retention, retained}
use Rattle.mars_session.specs.Script.{kind_of, Outcome, outcome, undo_refusal, script, first, rest}
use Rattle.mars_session.specs.Laws.{times, is_command, accepted_count, UndoRedoRoundTrip, appended_by, total_appended, FewCommandsAreUndone}
use Rattle.mars_session.proofs.Appending.{take_fewer}
use Rattle.mars_session.proofs.Undoing.{base, Accepted, accepted_call, same_most, position_append_all, Undone, one_undone}
use Rattle.mars_session.proofs.ForLaws.Scripted.{refusals_change_nothing, none_after, all_moved}

if_yes : (m : Bool) (x y : Option History) → m ≡ true → (if m then x else y) ≡ x
if_yes m x y e = rw e refl

if_no : (m : Bool) (x y : Option History) → m ≡ false → (if m then x else y) ≡ y
if_no m x y e = rw e refl

-- Undo finds the same place if only the places up to the target and the `j` nearest ones before it are kept.
record Undoes (j : ℕ) (before : List Place) (p : Place) (after : List Place) (to : History) : Type 0 where
  fewer : length to.before ≤ length before
  found : marked_before (take (j + (length before - length to.before)) before) p after ≡ Some (retained (Some j) to)

undoes : (j : ℕ) (before : List Place) (p : Place) (after : List Place) (to : History) → marked_before before p after ≡ Some to → Undoes j before p after to
undoes j [] p after to e = absurd (cc)
undoes j (b ∷ before) p after to e =
    by_mark b.mark refl e (λ f. undoes j before b (p ∷ after) to f)
  where
    by_mark : (m : Bool) → b.mark ≡ m → (if m then Some (record { before = before; present = b; after = p ∷ after }) else marked_before before b (p ∷ after)) ≡ Some to
        → (marked_before before b (p ∷ after) ≡ Some to → Undoes j before b (p ∷ after) to) → Undoes j (b ∷ before) p after to
    by_mark true m f more =
        let here : to ≡ record { before = before; present = b; after = p ∷ after } = (cc) in
        let one : j + (length (b ∷ before) - length before) ≡ suc j = omega arith in
        let found = if_yes b.mark (Some (record { before = take j before; present = b; after = p ∷ after })) (marked_before (take j before) b (p ∷ after)) m in
        rw here (record { fewer = omega arith; found = rw one found })
    by_mark false m f more =
        let next = more f in
        let few : List Place = take (j + (length before - length to.before)) before in
        let found = if_no b.mark (Some (record { before = few; present = b; after = p ∷ after })) (marked_before few b (p ∷ after)) m ∙ next.found in
        let one : j + (length (b ∷ before) - length to.before) ≡ suc (j + (length before - length to.before)) = omega (arith, next.fewer) in
        record { fewer = omega (arith, next.fewer); found = rw one found }

-- Redo finds the same place if only the `j` nearest places before `p` are kept.
record Redoes (j : ℕ) (before : List Place) (p : Place) (after : List Place) (to : History) : Type 0 where
  more : length before ≤ length to.before
  found : marked_after (take j before) p after ≡ Some (retained (Some (j + (length to.before - length before))) to)

redoes : (j : ℕ) (before : List Place) (p : Place) (after : List Place) (to : History) → marked_after before p after ≡ Some to → Redoes j before p after to
redoes j before p [] to e = absurd (cc)
redoes j before p (a ∷ after) to e =
    by_mark a.mark refl e (λ f. redoes (suc j) (p ∷ before) a after to f)
  where
    by_mark : (m : Bool) → a.mark ≡ m → (if m then Some (record { before = p ∷ before; present = a; after = after }) else marked_after (p ∷ before) a after) ≡ Some to
        → (marked_after (p ∷ before) a after ≡ Some to → Redoes (suc j) (p ∷ before) a after to) → Redoes j before p (a ∷ after) to
    by_mark true m f later =
        let here : to ≡ record { before = p ∷ before; present = a; after = after } = (cc) in
        let one : j + (length (p ∷ before) - length before) ≡ suc j = omega arith in
        let found = if_yes a.mark (Some (record { before = p ∷ take j before; present = a; after = after })) (marked_after (p ∷ take j before) a after) m in
        rw here (record { more = omega arith; found = rw one found })
    by_mark false m f later =
        let next = later f in
        let found = if_no a.mark (Some (record { before = p ∷ take j before; present = a; after = after })) (marked_after (p ∷ take j before) a after) m in
        let one : suc j + (length to.before - length (p ∷ before)) ≡ j + (length to.before - length before) = omega (arith, next.more) in
        record { more = omega (arith, next.more); found = found ∙ (rw one at next.found) }

-- `n` undos lead to the same place if only the places up to it and the `j` nearest ones before it are kept.
record ManyUndone (n j : ℕ) (h to : History) : Type 0 where
  fewer : position_of to ≤ position_of h
  found : times n undo (retained (Some (j + (position_of h - position_of to))) h) ≡ Some (retained (Some j) to)

many_undone : (n j : ℕ) (h to : History) → times n undo h ≡ Some to → ManyUndone n j h to
many_undone zero j h to e =
    let here : to ≡ h = (cc) in
    let none : j + (position_of h - position_of h) ≡ j = omega arith in
    rw here (record { fewer = omega arith; found = rw none refl })
many_undone (suc n) j h to e = by_first (undo h) refl e (λ k f. many_undone n j k to f)
  where
    by_first : (x : Option History) → undo h ≡ x → option_and_then (times n undo) x ≡ Some to → ((k : History) → times n undo k ≡ Some to → ManyUndone n j k to) → ManyUndone (suc n) j h to
    by_first None u f more = absurd (cc)
    by_first (Some k) u f more =
        let next = more k f in
        let one = undoes (j + (position_of k - position_of to)) h.before h.present h.after k u in
        let sum : j + (position_of k - position_of to) + (position_of h - position_of k) ≡ j + (position_of h - position_of to) = omega (arith, next.fewer, one.fewer) in
        let step : undo (retained (Some (j + (position_of h - position_of to))) h) ≡ Some (retained (Some (j + (position_of k - position_of to))) k) = rw sum at one.found in
        record { fewer = omega (arith, next.fewer, one.fewer); found = ap (option_and_then (times n undo)) step ∙ next.found }

-- `n` redos lead to the same place if only the `j` nearest places before `h` are kept.
record ManyRedone (n j : ℕ) (h to : History) : Type 0 where
  more : position_of h ≤ position_of to
  found : times n redo (retained (Some j) h) ≡ Some (retained (Some (j + (position_of to - position_of h))) to)

many_redone : (n j : ℕ) (h to : History) → times n redo h ≡ Some to → ManyRedone n j h to
many_redone zero j h to e =
    let here : to ≡ h = (cc) in
    let none : j + (position_of h - position_of h) ≡ j = omega arith in
    rw here (record { more = omega arith; found = rw none refl })
many_redone (suc n) j h to e = by_first (redo h) refl e (λ i k f. many_redone n i k to f)
  where
    by_first : (x : Option History) → redo h ≡ x → option_and_then (times n redo) x ≡ Some to → ((i : ℕ) (k : History) → times n redo k ≡ Some to → ManyRedone n i k to) → ManyRedone (suc n) j h to
    by_first None u f later = absurd (cc)
    by_first (Some k) u f later =
        let one = redoes j h.before h.present h.after k u in
        let next = later (j + (position_of k - position_of h)) k f in
        let sum : j + (position_of k - position_of h) + (position_of to - position_of k) ≡ j + (position_of to - position_of h) = omega (arith, next.more, one.more) in
        record { more = omega (arith, next.more, one.more); found = ap (option_and_then (times n redo)) one.found ∙ (rw sum at next.found) }

-- Both histories have the same present state and the same `k` nearest places before it.
record Same (k : ℕ) (h whole : History) : Type 0 where
  state : h.present.state ≡ whole.present.state
  before : take k h.before ≡ take k whole.before

same_fewer : (k : ℕ) (p : Place) (x y : List Place) → take k x ≡ take k y → take k (p ∷ x) ≡ take k (p ∷ y)
same_fewer zero p x y e = refl
same_fewer (suc k) p x y e = ap (λ (ps : List Place). p ∷ ps) (sym (take_fewer k x) ∙ ap (take k) e ∙ take_fewer k y)

same_append_all : (k : ℕ) (p : Place) (x y : List Place) (ss : List State) → take k x ≡ take k y
    → retained (Some k) (append_all (record { before = x; present = p; after = [] }) ss) ≡ retained (Some k) (append_all (record { before = y; present = p; after = [] }) ss)
same_append_all k p x y [] e = ap (λ (b : List Place). record { before = b; present = p; after = [] }) e
same_append_all k p x y (s ∷ ss) e = same_append_all k (record { state = s; mark = false }) (p ∷ x) (p ∷ y) ss (same_fewer k p x y e)

-- An accepted command leads to the same kept places from both histories.
same_accepted : (k : ℕ) (h whole : History) (s : State) (ss : List State) → Same k h whole → retained (Some k) (after_command h s ss) ≡ retained (Some k) (after_command whole s ss)
same_accepted k h whole s ss same =
    rw same.state (ap marked (same_append_all k (record { state = whole.present.state; mark = true }) h.before whole.before (s ∷ ss) same.before))

take_twice : (k : ℕ) (xs : List Place) → take k (take k xs) ≡ take k xs
take_twice zero xs = refl
take_twice (suc k) [] = refl
take_twice (suc k) (x ∷ xs) = ap (λ (ps : List Place). x ∷ ps) (take_twice k xs)

-- `end` is what is kept of a history without evictions, in which `count` undos and redos lead back and forward again.
record ReachedWhole (k count total : ℕ) (start end : History) : Type 0 where
  whole : History
  undone : Undone count start whole
  within : position_of whole ≤ position_of start + total
  is : end ≡ retained (Some k) whole

abbrev FewReached : ℕ → ℕ → ℕ → History → History → History → Type 0
FewReached k count total h start end = ((count ≡ 0) × (end ≡ h)) ⊎ ReachedWhole k count total start end

-- If the first call is accepted, the claim follows from the claim for the other calls.
one_whole : (k n count total : ℕ) (start new end : History) (s : State) (ss : List State) → n ≡ suc (length ss) → new ≡ retained (Some k) (after_command start s ss)
    → FewReached k count total new (after_command start s ss) end → ReachedWhole k (suc count) (n + total) start end
one_whole k n count total start new end s ss c e (inl none) =
    let last : position_of (after_command start s ss) ≡ position_of start + 1 + length ss = position_append_all (append (cut (marked start)) s) ss ∙ omega arith in
    record {
      whole = after_command start s ss;
      undone = one_undone count start (after_command start s ss) s ss (none_after count start (after_command start s ss) s ss none.0 refl);
      within = omega (arith, last, c);
      is = none.1 ∙ e;
    }
one_whole k n count total start new end s ss c e (inr r) =
    let last : position_of (after_command start s ss) ≡ position_of start + 1 + length ss = position_append_all (append (cut (marked start)) s) ss ∙ omega arith in
    record {
      whole = r.whole;
      undone = one_undone count start r.whole s ss r.undone;
      within = omega (arith, last, c, r.within);
      is = r.is;
    }

-- If the first call is refused, the claim follows from the claim for the other calls.
none_whole : (k n count total : ℕ) (h start end : History) → FewReached k count total h start end → FewReached k count (n + total) h start end
none_whole k n count total h start end (inl none) = inl none
none_whole k n count total h start end (inr r) = inr (record { whole = r.whole; undone = r.undone; within = omega (arith, r.within); is = r.is })

module _ (k limit : ℕ) where
  -- One more call before the others.
  one_few : (m : Retention) (n total : ℕ) (r : Result Standing Refusal) (others : List (Result Standing Refusal)) (h start new end : History) → m.most ≡ Some k → Same k h start
      → (IsOk r → Accepted m n h new) → (IsErr r → new ≡ h)
      → ((next : History) → Same k new next → FewReached k (accepted_count others) total new next end) → FewReached k (accepted_count (r ∷ others)) (n + total) h start end
  one_few m n total (Ok standing) others h start new end e same accepts keeps later =
      let one : Accepted m n h new = accepts refl in
      let made : new ≡ retained (Some k) (after_command h one.first one.others) = rw e at one.is in
      let next : History = after_command start one.first one.others in
      let is : new ≡ retained (Some k) next = made ∙ same_accepted k h start one.first one.others same in
      let alike : Same k new next = rw is (record { state = refl; before = take_twice k next.before }) in
      inr (one_whole k n (accepted_count others) total start new end one.first one.others one.count is (later next alike))
  one_few m n total (Err r) others h start new end e same accepts keeps later =
      let stays : new ≡ h = keeps refl in
      none_whole k n (accepted_count others) total h start end (rw stays at (later start (rw stays same)))

  few_reached : (m : Retention) (calls : List Call) (poor : List Bool) (h start : History) → m.most ≡ Some k → Same k h start → IsTrue (list_all is_command (map kind_of calls))
      → FewReached k (accepted_count (script m limit calls poor h).replies) (total_appended m limit calls poor h) h start (script m limit calls poor h).history
  few_reached m [] poor h start e same c = inl (refl, refl)
  few_reached m (call ∷ calls) poor h start e same c =
      let commands = and_parts (is_command (kind_of call)) (list_all is_command (map kind_of calls)) c in
      let one : Outcome = outcome m limit call (first poor) h in
      let most : one.retention.most ≡ Some k = same_most m limit call (first poor) h ∙ e in
      one_few m (appended_by (kind_of call) h.present.state) (total_appended one.retention limit calls (rest poor) one.history) one.reply
      (script one.retention limit calls (rest poor) one.history).replies h start one.history (script one.retention limit calls (rest poor) one.history).history e same
      (λ ok. accepted_call m limit call (first poor) h commands.0 ok) (λ err. (refusals_change_nothing m limit call (first poor) h err).0)
      (λ next alike. few_reached one.retention calls (rest poor) one.history next most alike commands.1)

  few_back_and_on : (m : Retention) (n total : ℕ) (up rp : List Bool) (h end : History) → total ≤ k → FewReached k n total h h end
      → UndoRedoRoundTrip m limit n up rp h (script m limit (replicate n Undo) up end).history end
  few_back_and_on m n total up rp h end l (inl none) =
      rw (none.0, none.1) (record { undone = refl; retention = refl; state = refl; redone = refl; same = refl })
  few_back_and_on m n total up rp h end l (inr r) =
      let start : History = base h r.undone.follow in
      let j : ℕ = k - (position_of r.whole - position_of h) in
      let all : j + (position_of r.whole - position_of h) ≡ k = omega (arith, r.within, l) in
      let back : times n undo (retained (Some k) r.whole) ≡ Some (retained (Some j) start) = rw all at (many_undone n j r.whole start r.undone.back).found in
      let on : times n redo (retained (Some j) start) ≡ Some (retained (Some k) r.whole) = rw all at (many_redone n j start r.whole r.undone.again).found in
      let undos = all_moved m limit n Undo (undo_refusal m) undo up end (retained (Some j) start) (λ b x. refl) (rw r.is back) in
      let redos = all_moved m limit n Redo NothingToRedo redo rp (retained (Some j) start) end (λ b x. refl) (rw r.is on) in
      record {
        undone = undos.accepted;
        retention = undos.retention;
        state = ap (λ (x : History). x.present.state) undos.history;
        redone = rw undos.history redos.accepted;
        same = rw undos.history redos.history;
      }

pub few_commands_are_undone : FewCommandsAreUndone
few_commands_are_undone k forgotten limit calls poor up rp h c l =
    let m : Retention = record { most = Some k; forgotten = forgotten } in
    let reached = few_reached k limit m calls poor h h refl (record { state = refl; before = refl }) c in
    few_back_and_on k limit (script m limit calls poor h).retention (accepted_count (script m limit calls poor h).replies) (total_appended m limit calls poor h) up rp h
    (script m limit calls poor h).history l reached
