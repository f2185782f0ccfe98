-- Moves and accepted commands in terms of the list of all places.
use Rattle.std.proofs.Common.{◌≡◌, ℕ, zero, suc, ◌+◌, ◌<◌, ◌≤◌, Bool, true, false, List, [], ◌∷◌, ◌++◌, length, take, Option, None, Some, refl, ap, sym, ◌∙◌, subst, arith, add-one, nat_eq, inl, inr, if◌then◌else◌}
use Rattle.std.specs.Prelude.{reverse, option_map, ◌==◌}
use Rattle.std.proofs.lemmas.Bool.{eqb-true, eqb-false}
use Rattle.std.proofs.lemmas.List.{reverse-append, append_assoc, length-reverse, length-append}
use Rattle.std.proofs.Math.Seq.{take-append_seam}
use Rattle.mars_core.specs.State.{State}
use Rattle.mars_session.specs.History.{Place, History, places, position_of, append, append_all, cut, marked, after_command, marked_before, undo, marked_after, redo, rewound_from, rewound, first_at_turn_from, goto}
use Rattle.mars_session.specs.Laws.{holds_at, IsGreatestBelow, IsLeastBetween, MovesKeepPlaces, UndoFindsNearest, RedoFindsNearest, GotoFindsFirst, command_places, CommandsAppend}
use Rattle.mars_session.proofs.Walking.{rewound_again, position_rewound}
use Rattle.mars_session.proofs.Undoing.{after_append_all}

-- The nearest place before the present one follows those before it.
pub places_from : (b : Place) (before rest : List Place) → reverse (b ∷ before) ++ rest ≡ reverse before ++ b ∷ rest
places_from b before rest = ap (λ (l : List Place). l ++ rest) (reverse-append (b ∷ []) before) ∙ append_assoc (reverse before) (b ∷ []) rest

pub places_rewound : (before : List Place) (p : Place) (after : List Place) → places (rewound_from before p after) ≡ reverse before ++ p ∷ after
places_rewound [] p after = refl
places_rewound (b ∷ before) p after = places_rewound before b (p ∷ after) ∙ sym (places_from b before (p ∷ after))

places_same : (h k : History) → rewound h ≡ rewound k → places h ≡ places k
places_same h k e = sym (places_rewound h.before h.present h.after) ∙ ap places e ∙ places_rewound k.before k.present k.after

-- A property of both branches holds for the conditional.
found : (P : Option History → Type 0) (b : Bool) (x y : Option History) → (b ≡ true → P x) → (b ≡ false → P y) → P (if b then x else y)
found P true x y h k = h refl
found P false x y h k = k refl

-- A history that was found has the same places as `r`, which is a rewound history.
abbrev pub SameStart : History → Option History → Type 0
SameStart r None = Unit {0}
SameStart r (Some to) = rewound to ≡ r

start_of : (r : History) (o : Option History) (to : History) → SameStart r o → o ≡ Some to → rewound to ≡ r
start_of r o to h e = subst (λ (x : Option History). SameStart r x) e h

pub undo_start : (before : List Place) (p : Place) (after : List Place) → SameStart (rewound_from before p after) (marked_before before p after)
undo_start [] p after = tt
undo_start (b ∷ before) p after =
    found (SameStart (rewound_from before b (p ∷ after))) b.mark (Some (record { before = before; present = b; after = p ∷ after })) (marked_before before b (p ∷ after))
    (λ e. refl) (λ e. undo_start before b (p ∷ after))

pub redo_start : (before : List Place) (p : Place) (after : List Place) → SameStart (rewound_from before p after) (marked_after before p after)
redo_start before p [] = tt
redo_start before p (a ∷ after) =
    found (SameStart (rewound_from (p ∷ before) a after)) a.mark (Some (record { before = p ∷ before; present = a; after = after })) (marked_after (p ∷ before) a after)
    (λ e. refl) (λ e. redo_start (p ∷ before) a after)

pub goto_start : (t : ℕ) (before : List Place) (p : Place) (after : List Place) → SameStart (rewound_from before p after) (first_at_turn_from t before p after)
goto_start t before p [] =
    found (SameStart (rewound_from before p [])) (nat_eq p.state.turns t) (Some (record { before = before; present = p; after = [] })) None (λ e. refl) (λ e. tt)
goto_start t before p (a ∷ after) =
    found (SameStart (rewound_from before p (a ∷ after))) (nat_eq p.state.turns t) (Some (record { before = before; present = p; after = a ∷ after })) (first_at_turn_from t (p ∷ before) a after)
    (λ e. refl) (λ e. goto_start t (p ∷ before) a after)

pub moves_keep_places : MovesKeepPlaces
moves_keep_places h to (inl e) = places_same to h (start_of (rewound h) (undo h) to (undo_start h.before h.present h.after) e)
moves_keep_places h to (inr (inl e)) = places_same to h (start_of (rewound h) (redo h) to (redo_start h.before h.present h.after) e)
moves_keep_places h to (inr (inr g)) =
    let r : History = rewound h in
    places_same to h (start_of (rewound r) (goto g.0 h) to (goto_start g.0 r.before r.present r.after) g.1 ∙ rewound_again h)

-- The place with number `length front + k` is place `k` of the rest.
passes_behind : (test : Place → Bool) (front rest : List Place) (k n : ℕ) → n ≡ length front + k → holds_at test (front ++ rest) n ≡ holds_at test rest k
passes_behind test [] rest k n e = let same : n ≡ k = omega (arith, e) in rw same refl
passes_behind test (x ∷ front) rest k zero e = absurd (omega (arith, e))
passes_behind test (x ∷ front) rest k (suc n) e = passes_behind test front rest k n (omega (arith, e))

passes_here : (test : Place → Bool) (all before : List Place) (p : Place) (after : List Place) → all ≡ reverse before ++ p ∷ after → holds_at test all (length before) ≡ test p
passes_here test all before p after e =
    rw e (passes_behind test (reverse before) (p ∷ after) 0 (length before) (omega (arith, length-reverse before)))

places_count : (all before : List Place) (p : Place) (after : List Place) → all ≡ reverse before ++ p ∷ after → length all ≡ suc (length before + length after)
places_count all before p after e = rw e (omega (arith, length-append (reverse before) (p ∷ after), length-reverse before))

-- If a test fails below `n` and at `n`, it fails below `n + 1`.
last_fails : (f : ℕ → Bool) (n k : ℕ) (b : Bool) → nat_eq k n ≡ b → k < suc n → (k < n → f k ≡ false) → f n ≡ false → f k ≡ false
last_fails f n k true e l h z = let same : k ≡ n = eqb-true k n e in rw same z
last_fails f n k false e l h z = h (omega (arith, l, eqb-false k n e))

greatest_more : (f : ℕ → Bool) (n : ℕ) (o : Option ℕ) → f n ≡ false → IsGreatestBelow f n o → IsGreatestBelow f (suc n) o
greatest_more f n None z h = λ k l. last_fails f n k (nat_eq k n) refl l (h k) z
greatest_more f n (Some i) z h = (omega (arith, h.0), h.1, λ k m l. last_fails f n k (nat_eq k n) refl l (h.2 k m) z)

first_fails : (f : ℕ → Bool) (n k : ℕ) (b : Bool) → nat_eq k n ≡ b → n ≤ k → (suc n ≤ k → f k ≡ false) → f n ≡ false → f k ≡ false
first_fails f n k true e l h z = let same : k ≡ n = eqb-true k n e in rw same z
first_fails f n k false e l h z = h (omega (arith, l, eqb-false k n e))

least_more : (f : ℕ → Bool) (n m : ℕ) (o : Option ℕ) → f n ≡ false → IsLeastBetween f (suc n) m o → IsLeastBetween f n m o
least_more f n m None z h = λ k l u. first_fails f n k (nat_eq k n) refl l (λ v. h k v u) z
least_more f n m (Some i) z h = (omega (arith, h.0), h.1, h.2, λ k l u. first_fails f n k (nat_eq k n) refl l (λ v. h.3 k v u) z)

undo_finds : (all before : List Place) (p : Place) (after : List Place) → all ≡ reverse before ++ p ∷ after
    → IsGreatestBelow (holds_at (λ (q : Place). q.mark) all) (length before) (option_map position_of (marked_before before p after))
undo_finds all [] p after e = λ k l. absurd (omega (arith, l))
undo_finds all (b ∷ before) p after e =
    let there : all ≡ reverse before ++ b ∷ p ∷ after = e ∙ places_from b before (p ∷ after) in
    let f : ℕ → Bool = holds_at (λ (q : Place). q.mark) all in
    let here : f (length before) ≡ b.mark = passes_here (λ (q : Place). q.mark) all before b (p ∷ after) there in
    found (λ (o : Option History). IsGreatestBelow f (suc (length before)) (option_map position_of o)) b.mark (Some (record { before = before; present = b; after = p ∷ after })) (marked_before before b (p ∷ after))
    (λ m. (omega arith, here ∙ m, λ k l u. absurd (omega (arith, l, u))))
    (λ m. greatest_more f (length before) (option_map position_of (marked_before before b (p ∷ after))) (here ∙ m) (undo_finds all before b (p ∷ after) there))

redo_finds : (all before : List Place) (p : Place) (after : List Place) → all ≡ reverse before ++ p ∷ after
    → IsLeastBetween (holds_at (λ (q : Place). q.mark) all) (suc (length before)) (length all) (option_map position_of (marked_after before p after))
redo_finds all before p [] e = λ k l u. absurd (omega (arith, l, u, places_count all before p [] e))
redo_finds all before p (a ∷ after) e =
    let there : all ≡ reverse (p ∷ before) ++ a ∷ after = e ∙ sym (places_from p before (a ∷ after)) in
    let f : ℕ → Bool = holds_at (λ (q : Place). q.mark) all in
    let here : f (suc (length before)) ≡ a.mark = passes_here (λ (q : Place). q.mark) all (p ∷ before) a after there in
    found (λ (o : Option History). IsLeastBetween f (suc (length before)) (length all) (option_map position_of o)) a.mark (Some (record { before = p ∷ before; present = a; after = after })) (marked_after (p ∷ before) a after)
    (λ m. (omega arith, omega (arith, places_count all before p (a ∷ after) e), here ∙ m, λ k l u. absurd (omega (arith, l, u))))
    (λ m. least_more f (suc (length before)) (length all) (option_map position_of (marked_after (p ∷ before) a after)) (here ∙ m) (redo_finds all (p ∷ before) a after there))

goto_finds : (t : ℕ) (all before : List Place) (p : Place) (after : List Place) → all ≡ reverse before ++ p ∷ after
    → IsLeastBetween (holds_at (λ (q : Place). q.state.turns == t) all) (length before) (length all) (option_map position_of (first_at_turn_from t before p after))
goto_finds t all before p [] e =
    let f : ℕ → Bool = holds_at (λ (q : Place). q.state.turns == t) all in
    let here : f (length before) ≡ nat_eq p.state.turns t = passes_here (λ (q : Place). q.state.turns == t) all before p [] e in
    let count = places_count all before p [] e in
    found (λ (o : Option History). IsLeastBetween f (length before) (length all) (option_map position_of o)) (nat_eq p.state.turns t) (Some (record { before = before; present = p; after = [] })) None
    (λ m. (omega arith, omega (arith, count), here ∙ m, λ k l u. absurd (omega (arith, l, u))))
    (λ m. least_more f (length before) (length all) None (here ∙ m) (λ k l u. absurd (omega (arith, l, u, count))))
goto_finds t all before p (a ∷ after) e =
    let there : all ≡ reverse (p ∷ before) ++ a ∷ after = e ∙ sym (places_from p before (a ∷ after)) in
    let f : ℕ → Bool = holds_at (λ (q : Place). q.state.turns == t) all in
    let here : f (length before) ≡ nat_eq p.state.turns t = passes_here (λ (q : Place). q.state.turns == t) all before p (a ∷ after) e in
    found (λ (o : Option History). IsLeastBetween f (length before) (length all) (option_map position_of o)) (nat_eq p.state.turns t) (Some (record { before = before; present = p; after = a ∷ after })) (first_at_turn_from t (p ∷ before) a after)
    (λ m. (omega arith, omega (arith, places_count all before p (a ∷ after) e), here ∙ m, λ k l u. absurd (omega (arith, l, u))))
    (λ m. least_more f (length before) (length all) (option_map position_of (first_at_turn_from t (p ∷ before) a after)) (here ∙ m) (goto_finds t all (p ∷ before) a after there))

pub undo_finds_nearest : UndoFindsNearest
undo_finds_nearest h = undo_finds (places h) h.before h.present h.after refl

pub redo_finds_nearest : RedoFindsNearest
redo_finds_nearest h = rw (add-one (position_of h)) (redo_finds (places h) h.before h.present h.after refl)

pub goto_finds_first : GotoFindsFirst
goto_finds_first h t =
    let r : History = rewound h in
    let all = goto_finds t (places h) r.before r.present r.after (sym (places_rewound h.before h.present h.after)) in
    subst (λ (n : ℕ). IsLeastBetween (holds_at (λ (q : Place). q.state.turns == t) (places h)) n (length (places h)) (option_map position_of (goto t h))) (position_rewound h) all

-- The places of a command, after those before it.
appended_places : (before : List Place) (s : State) (ss : List State)
    → places (marked (append_all (record { before = before; present = record { state = s; mark = false }; after = [] }) ss)) ≡ reverse before ++ command_places s ss
appended_places before s [] = refl
appended_places before s (t ∷ ss) =
    appended_places (record { state = s; mark = false } ∷ before) t ss ∙ places_from (record { state = s; mark = false }) before (command_places t ss)

pub commands_append : CommandsAppend
commands_append h s ss =
    let here : Place = record { state = h.present.state; mark = true } in
    let end : History = after_command h s ss in
    let front : take (length h.before) (reverse h.before ++ h.present ∷ h.after) ≡ reverse h.before =
    ap (λ (n : ℕ). take n (reverse h.before ++ h.present ∷ h.after)) (sym (length-reverse h.before)) ∙ take-append_seam (reverse h.before) (h.present ∷ h.after) in
    let nothing : length end.after ≡ 0 = ap length (after_append_all (append (cut (marked h)) s) ss refl) in (
      appended_places (here ∷ h.before) s ss ∙ places_from here h.before (command_places s ss) ∙ ap (λ (l : List Place). l ++ here ∷ command_places s ss) (sym front),
      omega (arith, nothing, places_count (places end) end.before end.present end.after refl),
    )
