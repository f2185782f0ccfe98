-- Every call keeps the number of places within the limit, because no command reaches more states than its bound.
use Rattle.std.proofs.Common.{◌≡◌, ℕ, zero, suc, ◌+◌, ◌-◌, ◌<◌, ◌≤◌, ◌≢◌, Bool, true, false, List, [], ◌∷◌, length, Option, None, Some, refl, ap, subst, arith, nat_eq, nat_lt, inl, inr, if◌then◌else◌}
use Rattle.std.specs.Prelude.{Result, Ok, Err, ◌||◌, ◌&&◌, nat_le}
use Rattle.std.proofs.lemmas.Bool.{or_parts, eqb-false, ltb-false, leb-false}
use Rattle.std.proofs.Math.Nat.{le-mul_of_pos_right}
use Rattle.mars_cell.specs.declared.instruction.Cell.{Cell}
use Rattle.mars_core.specs.State.{State, is_over_of}
use Rattle.mars_core.specs.Turn.{turn_of}
use Rattle.mars_core.specs.Edit.{edit_fault, edited}
use Rattle.mars_core.proofs.CallerLemmas.{shape-turn_of, shape-edited}
use Rattle.mars_core.specs.declared.battle.edit.Edit.{Edit}
use Rattle.mars_core.specs.declared.battle.edit.Edit.TheVariants as edits
use Rattle.mars_core.specs.declared.battle.edit.EditFault.{EditFault}
use Rattle.mars_session.specs.declared.calls.Call.TheVariants.{Step, Run, Until, SetCell, Fill, MoveProcess, Kill, Spawn, Undo, Redo, Goto}
use Rattle.mars_session.specs.declared.calls.Refusal.{Refusal}
use Rattle.mars_session.specs.declared.calls.Refusal.TheVariants.{Count, Address, Over, CyclePassed, NothingToUndo, NothingToRedo, NotInHistory, JournalFull, OutOfMemory}
use Rattle.mars_session.specs.History.{Place, History, position_of, last_of, following, append, cut, marked, after_command, undo, redo, rewound, goto, first_turns, last_turns}
use Rattle.mars_session.specs.Commands.{command_limit, States, turns_until, stops_at, step_states, run_states, until_bound, until_states, unless_fault, edit_states, fills, cells_between, fill_states}
use Rattle.mars_session.specs.Retention.{never}
use Rattle.mars_session.specs.Script.{move_outcome, room_refusal, appended, command_outcome}
use Rattle.mars_session.specs.Tapes.{Follows, FollowsAll}
use Rattle.mars_session.specs.Laws.{CallsKeepLimit}
use Rattle.mars_session.proofs.Undoing.{after_append_all, position_append_all}
use Rattle.mars_session.proofs.Walking.{same_last, rewound_again}
use Rattle.mars_session.proofs.Places.{SameStart, undo_start, redo_start, goto_start}

-- A command reaches at most `bound` states.
abbrev Within : ℕ → Result States Refusal → Type 0
Within bound (Err r) = Unit {0}
Within bound (Ok states) = suc (length states.1) ≤ bound

within_if : (bound : ℕ) (b : Bool) (x y : Result States Refusal) → (b ≡ true → Within bound x) → (b ≡ false → Within bound y) → Within bound (if b then x else y)
within_if bound true x y h k = h refl
within_if bound false x y h k = k refl

short_if : (n : ℕ) (b : Bool) (ts : List State) → length ts ≤ n → length (if b then [] else ts) ≤ n
short_if n true ts h = omega arith
short_if n false ts h = h

turns_length : (done : State → Bool) (n : ℕ) (s : State) → length (turns_until done n s) ≤ n
turns_length done zero s = omega arith
turns_length done (suc n) s =
    let rest = turns_length done n (turn_of s) in
    short_if (suc n) (done s) (turn_of s ∷ turns_until done n (turn_of s)) (omega (arith, rest))

fills_length : (n address : ℕ) (cell : Cell) (s : State) → length (fills n address cell s) ≡ n
fills_length zero address cell s = refl
fills_length (suc n) address cell s = ap suc (fills_length n (address + 1) cell (edited s (edits.SetCell address cell)))

step_within : (s : State) → Within 1 (step_states s)
step_within s = within_if 1 (is_over_of s) (Err Over) (Ok (turn_of s, [])) (λ e. tt) (λ e. omega arith)

run_within : (n : ℕ) (s : State) → Within n (run_states n s)
run_within n s =
    let turns : Result States Refusal = Ok (turn_of s, turns_until (stops_at None) (n - 1) (turn_of s)) in
    let few = turns_length (stops_at None) (n - 1) (turn_of s) in
    within_if n (nat_eq n 0 || nat_lt command_limit n) (Err Count) (if is_over_of s then Err Over else turns) (λ e. tt)
    (λ e. let some : n ≢ 0 = eqb-false n 0 (or_parts (nat_eq n 0) (nat_lt command_limit n) e).0 in
    within_if n (is_over_of s) (Err Over) turns (λ f. tt) (λ f. omega (arith, few, some)))

until_within : (c : ℕ) (s : State) → 1 ≤ length s.queues → Within (until_bound c s) (until_states c s)
until_within c s w =
    let n : ℕ = until_bound c s in
    let turns : Result States Refusal = Ok (turn_of s, turns_until (stops_at (Some c)) (n - 1) (turn_of s)) in
    let passed : Result States Refusal = if nat_le c s.cycle then Err (CyclePassed s.cycle) else turns in
    let few = turns_length (stops_at (Some c)) (n - 1) (turn_of s) in
    within_if n (nat_lt command_limit n) (Err Count) (if is_over_of s then Err Over else passed) (λ e. tt)
    (λ e. within_if n (is_over_of s) (Err Over) passed (λ f. tt)
    (λ f. within_if n (nat_le c s.cycle) (Err (CyclePassed s.cycle)) turns (λ g. tt)
    (λ g. let up : s.cycle < c = leb-false c s.cycle g in
    let some : c - s.cycle ≤ n = le-mul_of_pos_right (c - s.cycle) (omega (arith, w)) in
    omega (arith, few, some, up))))

within_unless : (bound : ℕ) (fault : Option EditFault) (states : States) → suc (length states.1) ≤ bound → Within bound (unless_fault fault states)
within_unless bound None states h = h
within_unless bound (Some f) states h = tt

fill_within : (from to : ℕ) (cell : Cell) (s : State) → Within (cells_between from to) (fill_states from to cell s)
fill_within from to cell s =
    let one : State = edited s (edits.SetCell from cell) in
    let states : States = (one, fills (to - from) (from + 1) cell one) in
    let judged : Result States Refusal = unless_fault (edit_fault s (edits.SetCell to cell)) states in
    let n : ℕ = cells_between from to in
    let count = fills_length (to - from) (from + 1) cell one in
    within_if n (nat_lt command_limit n) (Err Count) (if nat_lt to from then Err Address else judged) (λ f. tt)
    (λ f. within_if n (nat_lt to from) (Err Address) judged (λ g. tt)
    (λ g. let l : from ≤ to = ltb-false to from g in
    within_unless n (edit_fault s (edits.SetCell to cell)) states (omega (arith, count, l))))

last_accepted : (h : History) (s : State) (ss : List State) → last_of (after_command h s ss) ≡ position_of h + 1 + length ss
last_accepted h s ss =
    let k : History = append (cut (marked h)) s in
    let none : length (after_command h s ss).after ≡ 0 = ap length (after_append_all k ss refl) in
    omega (arith, none, position_append_all k ss)

no_fault : (b : Bool) (x : Refusal) (y : Option Refusal) → (if b then Some x else y) ≡ None → b ≡ false
no_fault true x y e = absurd (cc)
no_fault false x y e = refl

appended_limit : (limit bound : ℕ) (poor : Bool) (h : History) (states : States) (o : Option Refusal) → room_refusal never limit bound poor h ≡ o → suc (length states.1) ≤ bound → last_of h ≤ limit
    → last_of (appended never h states o).history ≤ limit
appended_limit limit bound poor h states (Some r) e few l = l
appended_limit limit bound poor h states None e few l =
    let fits : position_of h + bound ≤ limit =
    ltb-false limit (position_of h + bound) (no_fault (nat_lt limit (position_of h + bound)) (JournalFull (limit - position_of h)) (if poor && nat_lt (following h) bound then Some OutOfMemory else None) e) in
    omega (arith, fits, few, last_accepted h states.0 states.1)

commanded_limit : (limit bound : ℕ) (poor : Bool) (h : History) (x : Result States Refusal) → Within bound x → last_of h ≤ limit → last_of (command_outcome never limit bound poor h x).history ≤ limit
commanded_limit limit bound poor h (Err r) few l = l
commanded_limit limit bound poor h (Ok states) few l = appended_limit limit bound poor h states (room_refusal never limit bound poor h) refl few l

edit_limit : (limit : ℕ) (poor : Bool) (h : History) (e : Edit) → last_of h ≤ limit → last_of (command_outcome never limit 1 poor h (edit_states e h.present.state)).history ≤ limit
edit_limit limit poor h e l =
    let s = h.present.state in
    commanded_limit limit 1 poor h (edit_states e s) (within_unless 1 (edit_fault s e) (edited s e, []) (omega arith)) l

moved_limit : (limit : ℕ) (h : History) (r : Refusal) (o : Option History) → SameStart (rewound h) o → last_of h ≤ limit → last_of (move_outcome never h r o).history ≤ limit
moved_limit limit h r None same l = l
moved_limit limit h r (Some to) same l = omega (arith, same_last to h same, l)

-- Each place of a tape has at least one warrior.
follows_some : (s t : State) → Follows s t → 1 ≤ length s.queues → 1 ≤ length t.queues
follows_some s t (inl h) l = rw h.1 (omega (arith, l, (shape-turn_of s).warriors))
follows_some s t (inr h) l = rw h.2 (omega (arith, l, (shape-edited s h.0).warriors))

some_warrior : (before : List Place) (s : State) → FollowsAll before s → 1 ≤ length s.queues
some_warrior [] s v = v.some
some_warrior (b ∷ before) s f = follows_some b.state s f.0 (some_warrior before b.state f.1)

pub calls_keep_limit : CallsKeepLimit
calls_keep_limit limit Step poor h t l = commanded_limit limit 1 poor h (step_states h.present.state) (step_within h.present.state) l
calls_keep_limit limit (Run n) poor h t l = commanded_limit limit n poor h (run_states n h.present.state) (run_within n h.present.state) l
calls_keep_limit limit (Until c) poor h t l =
    commanded_limit limit (until_bound c h.present.state) poor h (until_states c h.present.state) (until_within c h.present.state (some_warrior h.before h.present.state t.steps.before)) l
calls_keep_limit limit (Fill from to cell) poor h t l =
    commanded_limit limit (cells_between from to) poor h (fill_states from to cell h.present.state) (fill_within from to cell h.present.state) l
calls_keep_limit limit (SetCell address cell) poor h t l = edit_limit limit poor h (edits.SetCell address cell) l
calls_keep_limit limit (MoveProcess w i address) poor h t l = edit_limit limit poor h (edits.MoveProcess w i address) l
calls_keep_limit limit (Kill w i) poor h t l = edit_limit limit poor h (edits.KillProcess w i) l
calls_keep_limit limit (Spawn w address) poor h t l = edit_limit limit poor h (edits.Spawn w address) l
calls_keep_limit limit Undo poor h t l = moved_limit limit h NothingToUndo (undo h) (undo_start h.before h.present h.after) l
calls_keep_limit limit Redo poor h t l = moved_limit limit h NothingToRedo (redo h) (redo_start h.before h.present h.after) l
calls_keep_limit limit (Goto n) poor h t l =
    let r : History = rewound h in
    moved_limit limit h (NotInHistory (first_turns h) (last_turns h)) (goto n h)
    (subst (λ (k : History). SameStart k (goto n h)) (rewound_again h) (goto_start n r.before r.present r.after)) l
