-- After an accepted `until`, the battle is in the requested cycle or is over, because each turn after which a warrior is alive
-- advances the clock.
use Rattle.std.proofs.Common.{◌≡◌, ℕ, zero, suc, ◌+◌, ◌-◌, ◌*◌, ◌<◌, ◌≤◌, ◌≢◌, Bool, true, false, List, [], ◌∷◌, length, drop, Option, None, Some, refl, ap, sym, ◌∙◌, subst, arith, add-one, nat_eq, nat_lt, eq-eqb, inl, inr, if◌then◌else◌}
use Rattle.std.specs.Prelude.{Result, Ok, Err, ◌⊎◌, ◌==◌, ◌||◌, ◌&&◌, nat_le, option_map, IsTrue}
use Rattle.std.proofs.lemmas.Bool.{or_parts, eqb-false, ltb-false, ltb-true, leb-false}
use Rattle.std.proofs.lemmas.List.{length-drop, length-set}
use Rattle.std.proofs.lemmas.Grind.{common_steps}
use Rattle.std.proofs.Math.Nat.{suc-mul, add-mul, mul-le-mul_right, le-mul_of_pos_right}
use Rattle.mars_core.specs.State.{State, first_live, live_from, survivors_of, moved_clock, advanced, is_over_of, ends}
use Rattle.mars_core.specs.Turn.{turn_of, executed}
use Rattle.mars_core.specs.Validity.{IsValid}
use Rattle.mars_core.proofs.CallerLemmas.{cycle-turn_of, shape-turn_of}
use Rattle.mars_core.specs.declared.machine.clock.Clock.{Clock}
use Rattle.mars_session.specs.declared.calls.Refusal.{Refusal}
use Rattle.mars_session.specs.declared.calls.Refusal.TheVariants.{Count, Over, CyclePassed}
use Rattle.mars_session.specs.Commands.{command_limit, States, turns_until, in_cycle, stops_at, until_bound, until_states}
use Rattle.mars_session.specs.Laws.{last_state, UntilArrives}

-- The index of a live queue is an index of a queue.
below_suc : (n : ℕ) (o : Option ℕ) (k : ℕ) → ((j : ℕ) → o ≡ Some j → j < n) → option_map suc o ≡ Some k → k < suc n
below_suc n None k f e = absurd (cc)
below_suc n (Some j) k f e =
    let is : suc j ≡ k = cc in
    let l = f j refl in omega (arith, is, l)

first_live_below : (queues : List (List ℕ)) (k : ℕ) → first_live queues ≡ Some k → k < length queues
first_live_below [] k e = absurd (cc)
first_live_below ([] ∷ queues) k e = below_suc (length queues) (first_live queues) k (λ j f. first_live_below queues j f) e
first_live_below ((p ∷ ps) ∷ queues) k e = let is : 0 ≡ k = cc in omega (arith, is)

live_shifted : (queues : List (List ℕ)) (i : ℕ) (o : Option ℕ) (k : ℕ) → ((j : ℕ) → o ≡ Some j → j < length (drop i queues)) → option_map (λ j. i + j) o ≡ Some k → (i ≤ k) × (k < length queues)
live_shifted queues i None k f e = absurd (cc)
live_shifted queues i (Some j) k f e =
    let is : i + j ≡ k = cc in
    let l = f j refl in (omega (arith, is), omega (arith, is, l, length-drop i queues))

live_at : (queues : List (List ℕ)) (i k : ℕ) → live_from queues i ≡ Some k → (i ≤ k) × (k < length queues)
live_at queues i k e = live_shifted queues i (first_live (drop i queues)) k (λ j f. first_live_below (drop i queues) j f) e

-- If no queue is live, no warrior is alive.
none_under : (f : ℕ → ℕ) (o : Option ℕ) → option_map f o ≡ None → o ≡ None
none_under f None e = refl
none_under f (Some k) e = absurd (cc)

none_survive : (queues : List (List ℕ)) → first_live queues ≡ None → survivors_of queues ≡ 0
none_survive [] e = refl
none_survive ([] ∷ queues) e = let rest = none_survive queues (none_under suc (first_live queues) e) in omega (arith, rest)
none_survive ((p ∷ ps) ∷ queues) e = absurd (cc)

over_by : (b : Bool) (n alive : ℕ) → 1 ≤ n → alive ≡ 0 → (b || (nat_le 2 n && nat_le alive 1) || (n == 1 && alive == 0)) ≡ true
over_by b n alive l e = grind (common_steps, arith)

over_when_none_lives : (cycles cycle : ℕ) (queues : List (List ℕ)) → 1 ≤ length queues → live_from queues 0 ≡ None → ends cycles cycle queues ≡ true
unfolding ends
over_when_none_lives cycles cycle queues l e =
    over_by (nat_eq cycle cycles) (length queues) (survivors_of queues) l (none_survive queues (none_under (λ j. 0 + j) (first_live queues) e))

-- The distance of a clock from the start in turns, with `w` warriors.
abbrev distance : ℕ → Clock → ℕ
distance w clock = clock.cycle * w + clock.next

farther : (m a b : ℕ) → a + 1 ≤ b → m + a + 1 ≤ m + b
farther m a b l = omega (arith, l)

next_cycle : (cycle w next k : ℕ) → next < w → cycle * w + next + 1 ≤ (cycle + 1) * w + k
next_cycle cycle w next k l =
    let more : (cycle + 1) * w ≡ cycle * w + w = rw (add-one cycle) (suc-mul cycle w) in
    rw more (omega (arith, l))

-- If a live index was found, the next clock has advanced.
clock_moved : (w : ℕ) (clock : Clock) (o z : Option ℕ) → clock.next < w → ((k : ℕ) → o ≡ Some k → (clock.next + 1 ≤ k) × (k < w)) → ((k : ℕ) → z ≡ Some k → k < w)
    → ((moved_clock clock o z).next < w) × ((z ≡ None) ⊎ (distance w clock + 1 ≤ distance w (moved_clock clock o z)))
clock_moved w clock (Some k) z l f g = ((f k refl).1, inr (farther (clock.cycle * w) clock.next k (f k refl).0))
clock_moved w clock None (Some k) l f g = (g k refl, inr (next_cycle clock.cycle w clock.next k l))
clock_moved w clock None None l f g = (l, inl refl)

-- After a turn the battle is over, or its clock has advanced.
record TurnMoves (w : ℕ) (s t : State) : Type 0 where
  next : t.next < w
  further : (is_over_of t ≡ true) ⊎ (s.cycle * w + s.next + 1 ≤ t.cycle * w + t.next)

over_or : (P Q R : Type 0) → (P → R) → (P ⊎ Q) → R ⊎ Q
over_or P Q R f (inl p) = inl (f p)
over_or P Q R f (inr q) = inr q

turn_moves : (w : ℕ) (s : State) → length s.queues ≡ w → s.next < w → TurnMoves w s (turn_of s)
unfolding turn_of executed advanced
turn_moves w s q l =
    let e : State = executed s in
    let clock : Clock = record { next = s.next; cycle = s.cycle } in
    let size : length e.queues ≡ w = length-set s.queues s.next _ ∙ q in
    let moved = clock_moved w clock (live_from e.queues (s.next + 1)) (live_from e.queues 0) l
    (λ k f. let at = live_at e.queues (s.next + 1) k f in (at.0, omega (arith, at.1, size)))
    (λ k f. omega (arith, (live_at e.queues 0 k f).1, size)) in
    record {
      next = moved.0;
      further = over_or _ _ _ (λ none. over_when_none_lives s.params.cycles _ e.queues (omega (arith, size, l)) none) moved.1;
    }

-- A clock that is far enough has reached cycle `c`.
reached_by : (w c k next : ℕ) (b : Bool) → nat_lt k c ≡ b → next < w → c * w ≤ k * w + next → c ≤ k
reached_by w c k next true e l far =
    let below : k < c = ltb-true k c e in
    let more : suc k * w ≤ c * w = mul-le-mul_right w below in
    let product = suc-mul k w in
    absurd (omega (arith, l, far, more, product))
reached_by w c k next false e l far = ltb-false k c e

or_left : (a b : Bool) → a ≡ true → (a || b) ≡ true
or_left true b e = refl
or_left false b e = absurd (cc)

or_right : (a b : Bool) → b ≡ true → (a || b) ≡ true
or_right true b e = refl
or_right false b e = e

-- Whether the turns stop at `s` or continue, the last state is in cycle `c` or the battle is over.
stop_or_go : (c : ℕ) (s t : State) (ts : List State) (b : Bool) → in_cycle c s ≡ b → (b ≡ false → in_cycle c (last_state t ts) ≡ true)
    → in_cycle c (last_state s (if b then [] else (t ∷ ts))) ≡ true
stop_or_go c s t ts true e h = e
stop_or_go c s t ts false e h = h refl

still_far : (w c n : ℕ) (s t : State) → is_over_of s ≡ false → (is_over_of s ≡ true) ⊎ (c * w ≤ s.cycle * w + s.next + suc n)
    → (is_over_of t ≡ true) ⊎ (s.cycle * w + s.next + 1 ≤ t.cycle * w + t.next) → (is_over_of t ≡ true) ⊎ (c * w ≤ t.cycle * w + t.next + n)
still_far w c n s t runs (inl over) further = absurd (let no : false ≡ true = sym runs ∙ over in cc)
still_far w c n s t runs (inr far) (inl over) = inl over
still_far w c n s t runs (inr far) (inr more) = inr (omega (arith, far, more))

arrive : (w c n : ℕ) (s : State) → length s.queues ≡ w → s.next < w → s.cycle ≤ c → (is_over_of s ≡ true) ⊎ (c * w ≤ s.cycle * w + s.next + n)
    → in_cycle c (last_state s (turns_until (stops_at (Some c)) n s)) ≡ true
arrive w c zero s q l u (inl over) = or_left (is_over_of s) (nat_eq s.cycle c) over
arrive w c zero s q l u (inr far) =
    let up = reached_by w c s.cycle s.next (nat_lt s.cycle c) refl l (omega (arith, far)) in
    let same : s.cycle ≡ c = omega (arith, up, u) in
    or_right (is_over_of s) (nat_eq s.cycle c) (eq-eqb s.cycle c same)
arrive w c (suc n) s q l u far =
    let t : State = turn_of s in
    stop_or_go c s t (turns_until (stops_at (Some c)) n t) (in_cycle c s) refl
    (λ e. let parts = or_parts (is_over_of s) (nat_eq s.cycle c) e in
    let differs : s.cycle ≢ c = eqb-false s.cycle c parts.1 in
    let moves = turn_moves w s q l in
    arrive w c n t ((shape-turn_of s).warriors ∙ q) moves.next (omega (arith, (cycle-turn_of s).1, u, differs)) (still_far w c n s t parts.0 far moves.further))

-- The states that a command reaches end in the cycle, or with the battle over.
abbrev Arrives : ℕ → Result States Refusal → Type 0
Arrives c (Err r) = Unit {0}
Arrives c (Ok states) = IsTrue (in_cycle c (last_state states.0 states.1))

arrives_if : (c : ℕ) (b : Bool) (x y : Result States Refusal) → (b ≡ true → Arrives c x) → (b ≡ false → Arrives c y) → Arrives c (if b then x else y)
arrives_if c true x y h k = h refl
arrives_if c false x y h k = k refl

-- The first turn uses up one of the turns that the bound allows.
first_far : (w c : ℕ) (s t : State) → 1 ≤ w → s.cycle < c → (is_over_of t ≡ true) ⊎ (s.cycle * w + s.next + 1 ≤ t.cycle * w + t.next)
    → (is_over_of t ≡ true) ⊎ (c * w ≤ t.cycle * w + t.next + ((c - s.cycle) * w - 1))
first_far w c s t l u (inl over) = inl over
first_far w c s t l u (inr more) =
    let d : ℕ = c - s.cycle in
    let sum : d + s.cycle ≡ c = omega (arith, u) in
    let product : c * w ≡ d * w + s.cycle * w = ap (λ k. k * w) (sym sum) ∙ add-mul d s.cycle w in
    let some : d ≤ d * w = le-mul_of_pos_right d (omega (arith, l)) in
    let one : 1 ≤ d * w = omega (arith, some, u) in
    inr (rw product (omega (arith, more, one)))

until_arrives_at : (c : ℕ) (s : State) → IsValid s → Arrives c (until_states c s)
until_arrives_at c s v =
    let w : ℕ = length s.queues in
    let t : State = turn_of s in
    let turns : Result States Refusal = Ok (t, turns_until (stops_at (Some c)) (until_bound c s - 1) t) in
    let passed : Result States Refusal = if nat_le c s.cycle then Err (CyclePassed s.cycle) else turns in
    arrives_if c (nat_lt command_limit (until_bound c s)) (Err Count) (if is_over_of s then Err Over else passed) (λ e. tt)
    (λ e. arrives_if c (is_over_of s) (Err Over) passed (λ f. tt)
    (λ f. arrives_if c (nat_le c s.cycle) (Err (CyclePassed s.cycle)) turns (λ g. tt)
    (λ g. let up : s.cycle < c = leb-false c s.cycle g in
    let moves = turn_moves w s refl v.clock.next in
    arrive w c (until_bound c s - 1) t (shape-turn_of s).warriors moves.next (omega (arith, (cycle-turn_of s).1, up))
    (first_far w c s t v.some up moves.further))))

pub until_arrives : UntilArrives
until_arrives c s states v e = subst (λ (x : Result States Refusal). Arrives c x) e (until_arrives_at c s v)
