-- Battles, turn after turn: the deaths, the queues, and how many turns a battle without deaths has.
use Rattle.std.proofs.Common.{◌≡◌, ◌≢◌, ℕ, zero, suc, ◌+◌, ◌*◌, ◌<◌, ◌≤◌, Bool, true, false, cond, List, [], ◌∷◌, ◌++◌, length, get_or, Some, refl, ap, sym, ◌∙◌, subst, arith, inl, inr}
use Rattle.std.specs.Prelude.{if◌then◌else◌, ◌==◌, ◌&&◌, ◌||◌, nat_le}
use Rattle.std.proofs.lemmas.Bool.{cases_lt}
use Rattle.std.proofs.lemmas.Bool.Decides.{nat_tests}
use Rattle.std.proofs.lemmas.List.{append-nil, append_assoc, length-append, length-take, length-drop, get_or-set_same, get_or-set_other}
use Rattle.mars_cell.specs.declared.instruction.Cell.{Cell}
use Rattle.mars_cell.specs.declared.instruction.Modifier.{Modifier}
use Rattle.mars_cell.specs.declared.instruction.Op.{Op}
use Rattle.mars_cell.specs.declared.instruction.Op.TheVariants.{Dat, Mov, Add, Sub, Mul, Div, Mod, Jmp, Jmz, Jmn, Djn, Seq, Sne, Slt, Spl, Nop}
use Rattle.mars_cell.specs.Parameters.{Parameters}
use Rattle.mars_core.specs.State.{State, is_over_of, ends, survivors_of, queue_of, advanced, clock_of}
use Rattle.mars_core.specs.Effect.{effect_of, division}
use Rattle.mars_core.specs.Turn.{with_death, after_turns, executed, turn_of, execution_of, accepted, queue_after}
use Rattle.mars_core.specs.Shape.{SameShape}
use Rattle.mars_core.specs.Validity.{IsValid}
use Rattle.mars_core.specs.declared.deaths.Death.{Death}
use Rattle.mars_core.specs.declared.machine.clock.Clock.{Clock}
use Rattle.mars_core.proofs.CallerLemmas.{shape-turn_of}
use Rattle.mars_core.proofs.Counted.{valid_counted}
use Rattle.mars_core.proofs.Ends.{battle_ends}
use Rattle.mars_core.proofs.Live.{live_from_here, live_from_end}
use Rattle.mars_core.proofs.Turns.{running, turn_valid, filled_length}

pub valid_after : (n : ℕ) (s : State) → IsValid s → IsValid (after_turns n s)
valid_after zero s v = v
valid_after (suc n) s v =
    elim (is_over_of s) as (λ b. is_over_of s ≡ b → IsValid (if b then s else after_turns n (turn_of s))) [
      | true ↦ λ e. v
      | false ↦ λ e. valid_after n (turn_of s) (turn_valid s v e)
    ] refl

pub shape_after : (n : ℕ) (s : State) → SameShape (after_turns n s) s
shape_after zero s = record { params = refl; warriors = refl }
shape_after (suc n) s =
    elim (is_over_of s) as (λ b. SameShape (if b then s else after_turns n (turn_of s)) s) [
      | true ↦ record { params = refl; warriors = refl }
      | false ↦
          let first = shape-turn_of s in
          let later = shape_after n (turn_of s) in
          record { params = later.params ∙ first.params; warriors = later.warriors ∙ first.warriors }
    ]

-- The list `first` is a prefix of the list `all`.
abbrev Grow : List Death → List Death → Type 0
Grow first all = (more : List Death) × (all ≡ first ++ more)

grow_with : (died : Bool) (w t : ℕ) (ds : List Death) → Grow ds (with_death died w t ds)
grow_with true w t ds = (record { warrior = w; turns = t } ∷ [], refl)
grow_with false w t ds = ([], sym (append-nil ds))

grow_in_turn : (s : State) → Grow s.deaths (turn_of s).deaths
unfolding turn_of executed
grow_in_turn s = grow_with _ s.next (s.turns + 1) s.deaths

pub deaths_grow : (n : ℕ) (s : State) → Grow s.deaths (after_turns n s).deaths
deaths_grow zero s = ([], sym (append-nil s.deaths))
deaths_grow (suc n) s =
    elim (is_over_of s) as (λ b. Grow s.deaths (if b then s else after_turns n (turn_of s)).deaths) [
      | true ↦ ([], sym (append-nil s.deaths))
      | false ↦
          let first = grow_in_turn s in
          let later = deaths_grow n (turn_of s) in
          (first.0 ++ later.0, later.1 ∙ ap (λ ds. ds ++ later.0) first.1 ∙ append_assoc s.deaths first.0 later.0)
    ]

-- A turn does not change the queues of other warriors.
pub others_stay : (s : State) (w : ℕ) → w ≢ s.next → queue_of (turn_of s).queues w ≡ queue_of s.queues w
unfolding turn_of executed
others_stay s w other = get_or-set_other s.queues s.next w _ [] other

pub next_lives : (s : State) → IsValid s → is_over_of s ≡ false → queue_of s.queues s.next ≢ []
next_lives s v over = v.clock.next_lives (running s.params.cycles s.cycle s.queues v.some over).alive

pub dead_stay : (n : ℕ) (s : State) (w : ℕ) → IsValid s → queue_of s.queues w ≡ [] → queue_of (after_turns n s).queues w ≡ []
dead_stay zero s w v dead = dead
dead_stay (suc n) s w v dead =
    elim (is_over_of s) as (λ b. is_over_of s ≡ b → queue_of (if b then s else after_turns n (turn_of s)).queues w ≡ []) [
      | true ↦ λ e. dead
      | false ↦ λ e. (
          let other : w ≢ s.next = λ same. next_lives s v e (ap (queue_of s.queues) (sym same) ∙ dead) in
          dead_stay n (turn_of s) w (turn_valid s v e) (others_stay s w other ∙ dead)
          )
    ] refl

one_at_most : (b : Bool) (a : ℕ) → length (cond b (a ∷ []) []) ≤ 2
one_at_most true a = omega arith
one_at_most false a = omega arith

two_at_most : (m : ℕ) (op : Op) (modifier : Modifier) (a b target : Cell) (pc jump : ℕ) → length (effect_of m op modifier a b target pc jump).queued ≤ 2
unfolding effect_of division
two_at_most m Dat modifier a b target pc jump = omega arith
two_at_most m Mov modifier a b target pc jump = omega arith
two_at_most m Add modifier a b target pc jump = omega arith
two_at_most m Sub modifier a b target pc jump = omega arith
two_at_most m Mul modifier a b target pc jump = omega arith
two_at_most m Div modifier a b target pc jump = one_at_most _ _
two_at_most m Mod modifier a b target pc jump = one_at_most _ _
two_at_most m Jmp modifier a b target pc jump = omega arith
two_at_most m Jmz modifier a b target pc jump = omega arith
two_at_most m Jmn modifier a b target pc jump = omega arith
two_at_most m Djn modifier a b target pc jump = omega arith
two_at_most m Seq modifier a b target pc jump = omega arith
two_at_most m Sne modifier a b target pc jump = omega arith
two_at_most m Slt modifier a b target pc jump = omega arith
two_at_most m Spl modifier a b target pc jump = omega arith
two_at_most m Nop modifier a b target pc jump = omega arith

queued_few : (p : Parameters) (core : List Cell) (pc : ℕ) → length (execution_of p core pc).queued ≤ 2
unfolding execution_of
queued_few p core pc = two_at_most p.core_size _ _ _ _ _ _ _

one_longer : (p : Parameters) (core : List Cell) (queue : List ℕ) → queue ≢ [] → length (queue_after p core queue) ≤ length queue + 1
unfolding accepted
one_longer p core queue lives =
    let few = queued_few p core (get_or queue 0 0) in
    let some = filled_length queue lives in
    simp (length-append, length-take, length-drop) (omega (arith, few, some))

-- A turn adds at most one process.
pub one_more_process : (s : State) → IsValid s → is_over_of s ≡ false → length (queue_of (turn_of s).queues s.next) ≤ length (queue_of s.queues s.next) + 1
unfolding turn_of executed
one_more_process s v over =
    rw (get_or-set_same s.queues s.next (queue_after s.params s.core (queue_of s.queues s.next)) [] v.clock.next)
    (one_longer s.params s.core (queue_of s.queues s.next) (next_lives s v over))

-- In each completed cycle, and up to now in this cycle, each warrior has had its turn.
abbrev pub HasAllTurns : State → Type 0
HasAllTurns s = s.turns ≡ s.cycle * length s.queues + s.next

-- If there are no deaths, all warriors live.
pub all_live : (s : State) → IsValid s → s.deaths ≡ [] → (w : ℕ) → w < length s.queues → queue_of s.queues w ≢ []
all_live s v none w h e =
    let once = rw (none, e) at (v.deaths.once w h) in absurd (omega (arith, once))

-- If all warriors live, a turn advances the clock by one turn.
next_turn : (qs : List (List ℕ)) (clock : Clock) → ((w : ℕ) → w < length qs → queue_of qs w ≢ []) → clock.next < length qs → (advanced qs clock (clock.next + 1)).cycle * length qs + (advanced qs clock (clock.next + 1)).next ≡ clock.cycle * length qs + clock.next + 1
unfolding advanced
next_turn qs clock live h =
    elim (cases_lt (clock.next + 1) (length qs)) [
      | inl more ↦ rw (live_from_here qs (clock.next + 1) more (live _ more)) (omega arith)
      | inr last ↦
          let first : 0 < length qs = omega (arith, h) in
          rw (live_from_end qs (clock.next + 1) last, live_from_here qs 0 first (live _ first)) (omega (arith, h, last))
    ]

turn_has_all : (s : State) → IsValid s → is_over_of s ≡ false → (turn_of s).deaths ≡ [] → HasAllTurns s → HasAllTurns (turn_of s)
unfolding turn_of executed
turn_has_all s v over none all =
    let after = turn_valid s v over in
    let same = (shape-turn_of s).warriors in
    let one = rw same at (next_turn (executed s).queues (clock_of s) (all_live (turn_of s) after none) (subst (λ n. s.next < n) (sym same) v.clock.next)) in
    rw same (omega (arith, one, all))

none_before : (ds more : List Death) → ds ++ more ≡ [] → ds ≡ []
none_before [] more e = refl
none_before (d ∷ ds) more e = absurd (cc)

after_has_all : (n : ℕ) (s : State) → IsValid s → (after_turns n s).deaths ≡ [] → HasAllTurns s → HasAllTurns (after_turns n s)
after_has_all zero s v none all = all
after_has_all (suc n) s v none all =
    elim (is_over_of s) as (λ b. is_over_of s ≡ b → (if b then s else after_turns n (turn_of s)).deaths ≡ [] → HasAllTurns (if b then s else after_turns n (turn_of s))) [
      | true ↦ λ e none. all
      | false ↦ λ e none. (
          let later = deaths_grow n (turn_of s) in
          let first = none_before (turn_of s).deaths later.0 (sym later.1 ∙ none) in
          after_has_all n (turn_of s) (turn_valid s v e) none (turn_has_all s v e first all)
          )
    ] refl none

cycles_over : (cycles cycle n alive : ℕ) → alive ≡ n → 1 ≤ n → ((cycle == cycles) || (nat_le 2 n && nat_le alive 1) || (n == 1 && alive == 0)) ≡ true → cycle ≡ cycles
cycles_over cycles cycle n alive same some e = grind (arith, nat_tests)

-- If all warriors live, a battle is over only after its last cycle, and the first warrior would be next.
full_at_end : (s : State) → IsValid s → s.deaths ≡ [] → is_over_of s ≡ true → (s.cycle ≡ s.params.cycles) × (s.next ≡ 0)
unfolding ends
full_at_end s v none over =
    let counted = valid_counted s v in
    let none_died : length s.deaths ≡ 0 = rw none refl in
    let alive : survivors_of s.queues ≡ length s.queues = omega (arith, counted, none_died) in
    let cycle = cycles_over s.params.cycles s.cycle (length s.queues) (survivors_of s.queues) alive v.some over in
    let first = live_from_here s.queues 0 v.some (all_live s v none 0 v.some) in
    let next : Some 0 ≡ Some s.next = sym first ∙ v.clock.last_cycle cycle (omega (arith, alive, v.some)) in
    (cycle, cc)

pub full_fight : (s : State) → IsValid s → HasAllTurns s → (after_turns (s.params.cycles * length s.queues) s).deaths ≡ [] → ((after_turns (s.params.cycles * length s.queues) s).cycle ≡ s.params.cycles) × ((after_turns (s.params.cycles * length s.queues) s).turns ≡ s.params.cycles * length s.queues)
full_fight s v all none =
    let n = s.params.cycles * length s.queues in
    let shape = shape_after n s in
    let at_end = full_at_end (after_turns n s) (valid_after n s v) none (battle_ends s v) in
    let made = after_has_all n s v none all in
    let cycle = at_end.0 ∙ ap (λ (p : Parameters). p.cycles) shape.params in
    (cycle, made ∙ rw (cycle, shape.warriors, at_end.1) (omega arith))
