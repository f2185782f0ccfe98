-- The first ancestor of a process, and the turns in which its ancestors were born.
use Rattle.std.proofs.Common.{All, ◌≡◌, ◌≢◌, ℕ, zero, suc, ◌<◌, ◌≤◌, ◌==◌, ◌+◌, Bool, true, false, if◌then◌else◌, List, [], ◌∷◌, ◌++◌, length, drop, refl, subst, sym, ap, ◌∙◌, arith}
use Rattle.std.specs.Prelude.{nat_lt}
use Rattle.std.proofs.lemmas.Bool.{eqb-false, eqb-true, ltb-false, ltb-true}
use Rattle.std.proofs.lemmas.List.{get_or-set_same, length-append, length-drop}
use Rattle.std.proofs.lemmas.List.Elements.{All-append, All-cons, All-nil, All-weaker}
use Rattle.mars_core.specs.Ancestors.{Lineage, lineage, traced, traced_in_turn}
use Rattle.mars_core.specs.State.{State, is_over_of, queue_of}
use Rattle.mars_core.specs.Laws.{IsSplit}
use Rattle.mars_core.specs.Turn.{accepted, after_turns, executed, queue_after, turn_of, turn_record}
use Rattle.mars_core.specs.Validity.{IsValid}
use Rattle.mars_core.proofs.Fights.{next_lives, one_more_process, others_stay}
use Rattle.mars_core.proofs.Pasts.{after-turn}
use Rattle.mars_core.proofs.Turns.{filled_length, turn_valid}

abbrev moved_up : Lineage → Lineage
moved_up later = record { births = later.births; place = later.place + 1 }

abbrev went_on : Lineage → Lineage
went_on later = record { births = later.births; place = 0 }

abbrev born : ℕ → Lineage → Lineage
born turn later = record { births = later.births ++ turn ∷ []; place = 0 }

abbrev if_queued : Bool → ℕ → Lineage → Lineage
if_queued first turn later = if first then went_on later else born turn later

abbrev if_waiting : Bool → Bool → ℕ → Lineage → Lineage
if_waiting waits first turn later = if waits then moved_up later else if_queued first turn later

traced_inside : (turn : ℕ) (queue : List ℕ) (later : Lineage) → 1 ≤ length queue → (traced turn (length (drop 1 queue)) later).place < length queue
traced_inside turn queue later some =
    let waiting = length (drop 1 queue) in
    elim (nat_lt later.place waiting) as (λ b. nat_lt later.place waiting ≡ b → (if_waiting b (later.place == waiting) turn later).place < length queue) [
      | true ↦ λ e. let below = ltb-true later.place waiting e in omega (arith, below, length-drop 1 queue, some)
      | false ↦ λ e. elim (later.place == waiting) as (λ b. (if_queued b turn later).place < length queue) [ true ↦ some | false ↦ some ]
    ] refl

abbrev if_own : Bool → State → ℕ → Lineage → Lineage
if_own is_own s warrior later = if is_own then traced (s.turns + 1) (length (drop 1 (queue_of s.queues warrior))) later else later

abbrev if_over : Bool → ℕ → State → ℕ → ℕ → Lineage
if_over over n s warrior place =
    if over then record { births = []; place = place } else traced_in_turn s warrior (lineage n (turn_of s) warrior place)

-- Traced back over a turn, a process of the warrior leads to a process of the warrior.
back_inside : (s : State) (warrior : ℕ) (later : Lineage) → IsValid s → is_over_of s ≡ false → later.place < length (queue_of (turn_of s).queues warrior)
    → (traced_in_turn s warrior later).place < length (queue_of s.queues warrior)
back_inside s warrior later v running inside =
    elim (s.next == warrior) as (λ b. (s.next == warrior) ≡ b → (if_own b s warrior later).place < length (queue_of s.queues warrior)) [
      | true ↦ λ e.
          let lives = subst (λ w. queue_of s.queues w ≢ []) (eqb-true s.next warrior e) (next_lives s v running) in
          traced_inside (s.turns + 1) (queue_of s.queues warrior) later (filled_length (queue_of s.queues warrior) lives)
      | false ↦ λ e. subst (λ q. later.place < length q) (others_stay s warrior (λ x. eqb-false s.next warrior e (sym x))) inside
    ] refl

pub first_ancestors_are_there : (n warrior place : ℕ) (s : State) → IsValid s → place < length (queue_of (after_turns n s).queues warrior)
    → (lineage n s warrior place).place < length (queue_of s.queues warrior)
first_ancestors_are_there zero warrior place s v inside = inside
first_ancestors_are_there (suc n) warrior place s v inside =
    elim (is_over_of s) as (λ o. is_over_of s ≡ o → place < length (queue_of (if o then s else after_turns n (turn_of s)).queues warrior)
    → (if_over o n s warrior place).place < length (queue_of s.queues warrior)) [
      | true ↦ λ e there. there
      | false ↦ λ e there.
          back_inside s warrior (lineage n (turn_of s) warrior place) v e
          (first_ancestors_are_there n warrior place (turn_of s) (turn_valid s v e) there)
    ] refl inside

-- A split among the turns after the next turn is a split among the turns from the state `s` on.
later_split : (s : State) (n warrior turn : ℕ) → is_over_of s ≡ false → (k : ℕ) × IsSplit (turn_of s) n warrior k turn → (k : ℕ) × IsSplit s (suc n) warrior k turn
later_split s n warrior turn running (k, b) =
    let e : after_turns (suc k) s ≡ after_turns k (turn_of s) = after-turn (suc k) k s (omega arith) running in (
      suc k,
      record {
        below = omega (arith, b.below);
        running = ap (λ x. is_over_of x) e ∙ b.running;
        own = ap (λ (x : State). x.next) e ∙ b.own;
        number = b.number ∙ ap (λ (x : State). x.turns + 1) (sym e);
        splits = ap (λ x. length (turn_record x).queued.items) e ∙ b.splits;
      },
    )

-- After a turn, the queue has the processes that waited and those that the turn queued.
queue_length : (s : State) → IsValid s
    → length (queue_of (turn_of s).queues s.next) ≡ length (drop 1 (queue_of s.queues s.next)) + length (turn_record s).queued.items
unfolding turn_of executed turn_record
queue_length s v =
    rw (get_or-set_same s.queues s.next (queue_after s.params s.core (queue_of s.queues s.next)) [] v.clock.next)
    (length-append (drop 1 (queue_of s.queues s.next)) (accepted s.params s.core (queue_of s.queues s.next)))

module _ (s : State) (n warrior : ℕ) (v : IsValid s) (running : is_over_of s ≡ false) where
  abbrev IsBirth : ℕ → Type 0
  IsBirth turn = (k : ℕ) × IsSplit s (suc n) warrior k turn

  -- A process that comes after the first one that the turn queues was born in this turn.
  this_split : (place : ℕ) → s.next ≡ warrior → length (drop 1 (queue_of s.queues warrior)) < place → place < length (queue_of (turn_of s).queues warrior) → IsBirth (s.turns + 1)
  this_split place own after inside =
      let waiting : length (drop 1 (queue_of s.queues s.next)) < place = subst (λ w. length (drop 1 (queue_of s.queues w)) < place) (sym own) after in
      let there : place < length (queue_of (turn_of s).queues s.next) = subst (λ w. place < length (queue_of (turn_of s).queues w)) (sym own) inside in
      let some = filled_length (queue_of s.queues s.next) (next_lives s v running) in (
        0,
        record {
          below = omega arith;
          running = running;
          own = own;
          number = refl;
          splits = omega (arith, waiting, there, queue_length s v, one_more_process s v running, length-drop 1 (queue_of s.queues s.next), some);
        },
      )

  births_back : (later : Lineage) → later.place < length (queue_of (turn_of s).queues warrior) → All IsBirth later.births → All IsBirth (traced_in_turn s warrior later).births
  births_back later inside all =
      let waiting = length (drop 1 (queue_of s.queues warrior)) in
      let turn = s.turns + 1 in
      elim (s.next == warrior) as (λ b. (s.next == warrior) ≡ b → All IsBirth (if_own b s warrior later).births) [
        | true ↦ λ own.
            elim (nat_lt later.place waiting) as (λ b. nat_lt later.place waiting ≡ b → All IsBirth (if_waiting b (later.place == waiting) turn later).births) [
              | true ↦ λ e. all
              | false ↦ λ e.
                  elim (later.place == waiting) as (λ b. (later.place == waiting) ≡ b → All IsBirth (if_queued b turn later).births) [
                    | true ↦ λ same. all
                    | false ↦ λ other.
                        let least = ltb-false later.place waiting e in
                        let apart = eqb-false later.place waiting other in
                        All-append IsBirth later.births (turn ∷ []) all
                        (All-cons IsBirth turn [] (this_split later.place (eqb-true s.next warrior own) (omega (arith, least, apart)) inside) (All-nil IsBirth))
                  ] refl
            ] refl
        | false ↦ λ other. all
      ] refl

pub births_are_splits : (n warrior place : ℕ) (s : State) → IsValid s → place < length (queue_of (after_turns n s).queues warrior)
    → All (λ turn. (k : ℕ) × IsSplit s n warrior k turn) (lineage n s warrior place).births
births_are_splits zero warrior place s v inside = All-nil (λ turn. (k : ℕ) × IsSplit s zero warrior k turn)
births_are_splits (suc n) warrior place s v inside =
    elim (is_over_of s) as (λ o. is_over_of s ≡ o → place < length (queue_of (if o then s else after_turns n (turn_of s)).queues warrior)
    → All (λ turn. (k : ℕ) × IsSplit s (suc n) warrior k turn) (if_over o n s warrior place).births) [
      | true ↦ λ e there. All-nil (λ turn. (k : ℕ) × IsSplit s (suc n) warrior k turn)
      | false ↦ λ e there.
          let next = turn_valid s v e in
          let later = lineage n (turn_of s) warrior place in
          births_back s n warrior v e later (first_ancestors_are_there n warrior place (turn_of s) next there)
          (All-weaker (λ turn. (k : ℕ) × IsSplit (turn_of s) n warrior k turn) (λ turn. (k : ℕ) × IsSplit s (suc n) warrior k turn)
          (λ turn b. later_split s n warrior turn e b) later.births (births_are_splits n warrior place (turn_of s) next there))
    ] refl inside
