-- What undo and redo find among the places of accepted commands.
use Rattle.std.proofs.Common.{◌≡◌, ℕ, zero, suc, ◌+◌, Bool, true, false, List, [], ◌∷◌, ◌++◌, length, Option, Some, None, refl, ap, sym, ◌∙◌, arith, ◌⊎◌, inl, inr, if◌then◌else◌}
use Rattle.std.specs.Prelude.{option_and_then, IsOk, IsTrue, Result, Ok, Err}
use Rattle.mars_core.specs.State.{State}
use Rattle.mars_session.specs.History.{Place, History, position_of, append, append_all, after_command, cut, marked, marked_before, undo, marked_after, redo}
use Rattle.mars_session.specs.declared.calls.Call.{Call}
use Rattle.mars_session.specs.declared.calls.Refusal.{Refusal}
use Rattle.mars_session.specs.Commands.{States}
use Rattle.mars_session.specs.Retention.{Retention, never, retained, retention_after}
use Rattle.mars_session.specs.Script.{CallKind, Command, Move, kind_of, outcome_of, outcome, command_outcome, appended, move_outcome, room_refusal, first, rest, script}
use Rattle.mars_session.specs.Laws.{command_places, times, is_command, count_of, appended_by, AllAccepted, UndosGiveBack, RedosGiveAgain, RedoAfterUndo}

-- The history `h` with its present place marked, and followed by the places `after`.
abbrev pub base : History → List Place → History
base h after = record { before = h.before; present = record { state = h.present.state; mark = true }; after = after }

-- Undo from the last of the appended places continues from the place before them.
undo_appended : (b : List Place) (p : Place) (s : State) (ss : List State) (x : List Place)
    → undo (base (append_all (record { before = b; present = p; after = [] }) (s ∷ ss)) x)
    ≡ (if p.mark then Some (record { before = b; present = p; after = command_places s ss ++ x }) else marked_before b p (command_places s ss ++ x))
undo_appended b p s [] x = refl
undo_appended b p s (t ∷ ss) x = undo_appended (p ∷ b) (record { state = s; mark = false }) t ss x

-- Undo of an accepted command leads to the place before it.
pub undo_accepted : (h : History) (s : State) (ss : List State) (x : List Place) → undo (base (after_command h s ss) x) ≡ Some (base h (command_places s ss ++ x))
undo_accepted h s ss x = undo_appended h.before (record { state = h.present.state; mark = true }) s ss x

-- Redo finds the last of the appended places.
redo_appended : (b : List Place) (p : Place) (s : State) (ss : List State) (x : List Place)
    → marked_after b p (command_places s ss ++ x) ≡ Some (base (append_all (record { before = b; present = p; after = [] }) (s ∷ ss)) x)
redo_appended b p s [] x = refl
redo_appended b p s (t ∷ ss) x = redo_appended (p ∷ b) (record { state = s; mark = false }) t ss x

pub redo_accepted : (h : History) (s : State) (ss : List State) (x : List Place) → redo (base h (command_places s ss ++ x)) ≡ Some (base (after_command h s ss) x)
redo_accepted h s ss x = redo_appended h.before (record { state = h.present.state; mark = true }) s ss x

-- Appending places raises the position by their number.
pub position_append_all : (h : History) (ss : List State) → position_of (append_all h ss) ≡ position_of h + length ss
position_append_all h [] = omega arith
position_append_all h (s ∷ ss) = position_append_all (append h s) ss ∙ omega arith

pub after_append_all : (h : History) (ss : List State) → h.after ≡ [] → (append_all h ss).after ≡ []
after_append_all h [] e = e
after_append_all h (s ∷ ss) e = after_append_all (append h s) ss refl

-- After an accepted command, the present place is marked and is the last one.
pub base_accepted : (h : History) (s : State) (ss : List State) → base (after_command h s ss) [] ≡ after_command h s ss
base_accepted h s ss =
    let end : History = after_command h s ss in
    ap (λ (a : List Place). record { before = end.before; present = end.present; after = a }) (sym (after_append_all (append (cut (marked h)) s) ss refl))

some_again : (x : Option History) → option_and_then (λ k. Some k) x ≡ x
some_again None = refl
some_again (Some k) = refl

more_from : (n : ℕ) (move : History → Option History) → ((k : History) → times (suc n) move k ≡ option_and_then move (times n move k)) → (x : Option History) → option_and_then (times (suc n) move) x ≡ option_and_then move (option_and_then (times n move) x)
more_from n move e None = refl
more_from n move e (Some k) = e k

-- `n + 1` moves are `n` moves and one more.
pub times_more : (n : ℕ) (move : History → Option History) (h : History) → times (suc n) move h ≡ option_and_then move (times n move h)
times_more zero move h = some_again (move h)
times_more (suc n) move h = more_from n move (times_more n move) (move h)

-- Either this place is marked, so the search ends here, or the search continues.
found_again : (m : Bool) (here : History) (further on : Option History) (h back : History) → (if m then Some here else further) ≡ Some back → on ≡ Some h → redo here ≡ on
    → (further ≡ Some back → (if m then Some here else on) ≡ Some h → redo back ≡ Some h) → redo back ≡ Some h
found_again true here further on h back u r e more = let same : here ≡ back = cc in rw (sym same) (e ∙ r)
found_again false here further on h back u r e more = more u r

-- From `p` back to the nearest marked place, and forward again.
redo_undo_from : (before : List Place) (p : Place) (after : List Place) (h back : History) → marked_before before p after ≡ Some back
    → (if p.mark then Some (record { before = before; present = p; after = after }) else marked_after before p after) ≡ Some h → redo back ≡ Some h
redo_undo_from [] p after h back u r = absurd (cc)
redo_undo_from (b ∷ before) p after h back u r =
    found_again b.mark (record { before = before; present = b; after = p ∷ after }) (marked_before before b (p ∷ after)) (marked_after before b (p ∷ after)) h back u r refl
    (λ v q. redo_undo_from before b (p ∷ after) h back v q)

pub redo_undo : RedoAfterUndo
redo_undo h back m u = redo_undo_from h.before h.present h.after h back u (rw m refl)

-- An accepted command that reaches `n` states leads from `h` to `new`.
pub record Accepted (m : Retention) (n : ℕ) (h new : History) : Type 0 where
  pub first : State
  pub others : List State
  pub count : n ≡ suc (length others)
  pub is : new ≡ retained m.most (after_command h first others)

accepted_room : (m : Retention) (h : History) (states : States) (o : Option Refusal) → IsOk (appended m h states o).reply → Accepted m (suc (length states.1)) h (appended m h states o).history
accepted_room m h states (Some r) ok = absurd (let e : false ≡ true = ok in cc)
accepted_room m h states None ok = record { first = states.0; others = states.1; count = refl; is = refl }

accepted_command : (m : Retention) (limit bound : ℕ) (poor : Bool) (h : History) (x : Result States Refusal) → IsOk (command_outcome m limit bound poor h x).reply → Accepted m (count_of x) h (command_outcome m limit bound poor h x).history
accepted_command m limit bound poor h (Err r) ok = absurd (let e : false ≡ true = ok in cc)
accepted_command m limit bound poor h (Ok states) ok = accepted_room m h states (room_refusal m limit bound poor h) ok

accepted_kind : (m : Retention) (limit : ℕ) (call : CallKind) (poor : Bool) (h : History) → IsTrue (is_command call) → IsOk (outcome_of m limit call poor h).reply
    → Accepted m (appended_by call h.present.state) h (outcome_of m limit call poor h).history
accepted_kind m limit (Move refusal move) poor h c ok = absurd (let e : false ≡ true = c in cc)
accepted_kind m limit (Command bound states) poor h c ok = accepted_command m limit (bound h.present.state) poor h (states h.present.state) ok

pub accepted_call : (m : Retention) (limit : ℕ) (call : Call) (poor : Bool) (h : History) → IsTrue (is_command (kind_of call)) → IsOk (outcome m limit call poor h).reply
    → Accepted m (appended_by (kind_of call) h.present.state) h (outcome m limit call poor h).history
accepted_call m limit call poor h c ok = accepted_kind m limit (kind_of call) poor h c ok

-- A call leaves the retention as it is, or notes the evictions of a history.
abbrev Remembers : Retention → Retention → Type 0
Remembers m n = (n ≡ m) ⊎ ((x : History) × (n ≡ retention_after m x))

remembers_room : (m : Retention) (h : History) (states : States) (o : Option Refusal) → Remembers m (appended m h states o).retention
remembers_room m h states (Some r) = inl refl
remembers_room m h states None = inr (after_command h states.0 states.1, refl)

remembers_command : (m : Retention) (limit bound : ℕ) (poor : Bool) (h : History) (x : Result States Refusal) → Remembers m (command_outcome m limit bound poor h x).retention
remembers_command m limit bound poor h (Err r) = inl refl
remembers_command m limit bound poor h (Ok states) = remembers_room m h states (room_refusal m limit bound poor h)

remembers_move : (m : Retention) (h : History) (r : Refusal) (x : Option History) → Remembers m (move_outcome m h r x).retention
remembers_move m h r None = inl refl
remembers_move m h r (Some to) = inl refl

remembers_kind : (m : Retention) (limit : ℕ) (call : CallKind) (poor : Bool) (h : History) → Remembers m (outcome_of m limit call poor h).retention
remembers_kind m limit (Command bound states) poor h = remembers_command m limit (bound h.present.state) poor h (states h.present.state)
remembers_kind m limit (Move refusal move) poor h = remembers_move m h (refusal m h) (move h)

remembers_call : (m : Retention) (limit : ℕ) (call : Call) (poor : Bool) (h : History) → Remembers m (outcome m limit call poor h).retention
remembers_call m limit call poor h = remembers_kind m limit (kind_of call) poor h

never_remembered : (n : Retention) → Remembers never n → n ≡ never
never_remembered n (inl e) = e
never_remembered n (inr e) = e.1

-- If all places are kept, they still are after each call.
pub stays_never : (limit : ℕ) (call : Call) (poor : Bool) (h : History) → (outcome never limit call poor h).retention ≡ never
stays_never limit call poor h = never_remembered (outcome never limit call poor h).retention (remembers_call never limit call poor h)

most_remembered : (m n : Retention) → Remembers m n → n.most ≡ m.most
most_remembered m n (inl e) = ap (λ (x : Retention). x.most) e
most_remembered m n (inr e) = ap (λ (x : Retention). x.most) e.1

-- A call does not change how many places are kept.
pub same_most : (m : Retention) (limit : ℕ) (call : Call) (poor : Bool) (h : History) → (outcome m limit call poor h).retention.most ≡ m.most
same_most m limit call poor h = most_remembered m (outcome m limit call poor h).retention (remembers_call m limit call poor h)

-- From `end`, `n` undos lead to `h` with the places after it, and `n` redos lead from there to `end`.
pub record Undone (n : ℕ) (h end : History) : Type 0 where
  pub follow : List Place
  pub back : times n undo end ≡ Some (base h follow)
  pub again : times n redo (base h follow) ≡ Some end

pub one_undone : (n : ℕ) (h end : History) (s : State) (ss : List State) → Undone n (after_command h s ss) end → Undone (suc n) h end
one_undone n h end s ss u = record {
  follow = command_places s ss ++ u.follow;
  back = times_more n undo end ∙ ap (option_and_then undo) u.back ∙ undo_accepted h s ss u.follow;
  again = ap (option_and_then (times n redo)) (redo_accepted h s ss u.follow) ∙ u.again;
}

all_undone : (limit : ℕ) (calls : List Call) (poor : List Bool) (h : History) (s : State) (ss : List State) → AllAccepted limit calls poor (after_command h s ss)
    → Undone (length calls) (after_command h s ss) (script never limit calls poor (after_command h s ss)).history
all_undone limit [] poor h s ss a = record { follow = []; back = ap (λ (k : History). Some k) (sym (base_accepted h s ss)); again = ap (λ (k : History). Some k) (base_accepted h s ss) }
all_undone limit (call ∷ calls) poor h s ss a =
    let k : History = after_command h s ss in
    let one = accepted_call never limit call (first poor) k a.0 a.1 in
    let more : AllAccepted limit calls (rest poor) (after_command k one.first one.others) = rw one.is at a.2 in
    rw (stays_never limit call (first poor) k) (one_undone (length calls) k _ one.first one.others (rw one.is (all_undone limit calls (rest poor) k one.first one.others more)))

-- After accepted commands from any history, as many undos as commands lead back.
some_undone : (limit : ℕ) (call : Call) (calls : List Call) (poor : List Bool) (h : History) → AllAccepted limit (call ∷ calls) poor h → Undone (suc (length calls)) h (script never limit (call ∷ calls) poor h).history
some_undone limit call calls poor h a =
    let one = accepted_call never limit call (first poor) h a.0 a.1 in
    let more : AllAccepted limit calls (rest poor) (after_command h one.first one.others) = rw one.is at a.2 in
    rw (stays_never limit call (first poor) h) (one_undone (length calls) h _ one.first one.others (rw one.is (all_undone limit calls (rest poor) h one.first one.others more)))

pub undos_give_back : UndosGiveBack
undos_give_back limit [] poor h a = (refl, refl)
undos_give_back limit (call ∷ calls) poor h a = rw (some_undone limit call calls poor h a).back (refl, refl)

pub redos_give_again : RedosGiveAgain
redos_give_again limit [] poor h back a u = sym u
redos_give_again limit (call ∷ calls) poor h back a u =
    let all = some_undone limit call calls poor h a in
    let same : back ≡ base h all.follow = (let e = all.back in cc) in
    rw same all.again
