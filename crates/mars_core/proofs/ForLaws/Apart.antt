-- A warrior that keeps to a part of the core in which the other warriors change no cell fights alike in any two battles
-- that agree on its processes and on this part.
-- `fights_alike` follows the turns of the first battle, and passes its recursive call to a lemma that follows the turns
-- of the second (`meets`). `meets` skips the turns of the other warriors until both battles are at a turn of the
-- warrior. So the clocks and the numbers of warriors may differ.
use Rattle.std.proofs.Common.{◌≡◌, ◌≢◌, ℕ, zero, suc, ◌+◌, ◌<◌, Bool, true, false, cond, List, [], length, All, refl, ap, sym, ◌∙◌, subst, arith, inl, inr}
use Rattle.std.specs.Prelude.{◌==◌, if◌then◌else◌}
use Rattle.std.specs.List.{AllPass}
use Rattle.std.proofs.lemmas.Bool.{cases_eq, cases_lt}
use Rattle.std.proofs.lemmas.List.{get_or-set_same, get_or_past, map-id}
use Rattle.std.proofs.lemmas.List.Elements.{All-weaker}
use Rattle.mars_cell.specs.declared.instruction.Cell.{Cell}
use Rattle.mars_cell.specs.Cells.{empty_cell}
use Rattle.mars_cell.specs.Parameters.{Parameters, AreInRange}
use Rattle.mars_core.specs.State.{State, cell_at, queue_of, is_over_of}
use Rattle.mars_core.specs.Turn.{front_of, front_execution, accepted, queue_after, executed, turn_of, after_turns}
use Rattle.mars_core.specs.Touched.{touched, touched_in_turn}
use Rattle.mars_core.specs.Apart.{touched_in, StaysWithin, OthersLeaveUnchanged, count_own_turns, AgreesOn}
use Rattle.mars_core.specs.Validity.{IsCore, IsValid}
use Rattle.mars_core.proofs.ForLaws.Alike.{AlikeExecution}
use Rattle.mars_core.proofs.CallerLemmas.{shape-turn_of}
use Rattle.mars_core.proofs.Fights.{valid_after, shape_after, others_stay}
use Rattle.mars_core.proofs.Listed.{All-left, All-right}
use Rattle.mars_core.proofs.ForLaws.Touched.{Near, itself, both, untouched_stays}
use Rattle.mars_core.proofs.TouchedInside.{front_inside}
use Rattle.mars_core.proofs.Turns.{turn_valid, same_eq, eq_same, other_eq}

-- A process whose instruction touches only a part of the core, in two cores that are the same in this part.
module _ (p : Parameters) (r : AreInRange p) (part : ℕ → Bool) (q : List ℕ) (core other : List Cell) (fits : IsCore p.core_size core) (fits_other : IsCore p.core_size other) (start : front_of q < p.core_size) (keeps : All (λ a. part a ≡ true) (touched p core (front_of q))) (same : (a : ℕ) → part a ≡ true → cell_at core a ≡ cell_at other a) where
  alike : AlikeExecution p (λ a. a) (Near p r (front_of q) start (λ a. part a ≡ true) core other fits.size fits_other.size keeps same) (front_of q) (front_of q)
      (itself p r (front_of q) start (λ a. part a ≡ true) core other fits.size fits_other.size keeps same) (front_execution p core q) (front_execution p other q)
  alike = both p r (front_of q) start (λ a. part a ≡ true) core other fits.size fits_other.size keeps same

  queue_same : queue_after p core q ≡ queue_after p other q
  unfolding accepted
  queue_same = rw (alike.queued, map-id (front_execution p core q).queued) refl

  cells_same : (a : ℕ) → part a ≡ true → cell_at (front_execution p core q).written.core a ≡ cell_at (front_execution p other q).written.core a
  cells_same a h =
      let cores = alike.written.cores in
      elim (cases_lt a p.core_size) [
        | inl less ↦ sym (cores.cells a (h, less))
        | inr past ↦
            get_or_past (front_execution p core q).written.core a empty_cell (rw cores.size past)
            ∙ sym (get_or_past (front_execution p other q).written.core a empty_cell (rw cores.size_there past))
      ]

-- The queue of the warrior that had the turn.
queue_then : (s : State) → s.next < length s.queues → queue_of (turn_of s).queues s.next ≡ queue_after s.params s.core (queue_of s.queues s.next)
unfolding turn_of executed
queue_then s h = get_or-set_same s.queues s.next _ [] h

core_then : (s : State) → (turn_of s).core ≡ (front_execution s.params s.core (queue_of s.queues s.next)).written.core
unfolding turn_of executed
core_then s = refl

agrees_back : (part : ℕ → Bool) (w v : ℕ) (s t : State) → AgreesOn part w s v t → AgreesOn part v t w s
agrees_back part w v s t g = record { params = sym g.params; processes = sym g.processes; cells = λ a h. sym (g.cells a h) }

-- After a turn of the warrior in both battles, both agree again on the warrior and the part.
pub own_turn : (part : ℕ → Bool) (s t : State) → IsValid s → IsValid t → AgreesOn part s.next s t.next t → AllPass part (touched_in_turn s) → AgreesOn part s.next (turn_of s) t.next (turn_of t)
own_turn part s t v u g keeps =
    let p = s.params in
    let q = queue_of s.queues s.next in
    let fits : IsCore p.core_size t.core = subst (λ (p : Parameters). IsCore p.core_size t.core) (sym g.params) u.core in
    let start = front_inside s v in
    record {
      params = (shape-turn_of s).params ∙ g.params ∙ sym (shape-turn_of t).params;
      processes =
          queue_then s v.clock.next ∙ queue_same p v.params part q s.core t.core v.core fits start keeps g.cells
          ∙ rw (g.params, g.processes) refl ∙ sym (queue_then t u.clock.next);
      cells = λ a h. (
          ap (λ core. cell_at core a) (core_then s) ∙ cells_same p v.params part q s.core t.core v.core fits start keeps g.cells a h
          ∙ rw (g.params, g.processes) refl ∙ ap (λ core. cell_at core a) (sym (core_then t))
          );
    }

-- After a turn of another warrior in the first battle, both battles still agree on the warrior and the part.
pub other_turn : (part : ℕ → Bool) (w v : ℕ) (s t : State) → w ≢ s.next → AgreesOn part w s v t → ((a : ℕ) → part a ≡ true → cell_at (turn_of s).core a ≡ cell_at s.core a) → AgreesOn part w (turn_of s) v t
other_turn part w v s t other g left = record {
  params = (shape-turn_of s).params ∙ g.params;
  processes = others_stay s w other ∙ g.processes;
  cells = λ a h. left a h ∙ g.cells a h;
}

-- The first of several turns.
pub turn_first : (n : ℕ) (s : State) → is_over_of s ≡ false → after_turns (suc n) s ≡ after_turns n (turn_of s)
turn_first n s over = rw over refl

-- If another warrior has the turn, it changes no cell of the part.
abbrev pub LeavesAlone : (ℕ → Bool) → ℕ → State → Type 0
LeavesAlone part w t = t.next ≢ w → (a : ℕ) → part a ≡ true → cell_at (turn_of t).core a ≡ cell_at t.core a

module _ (part : ℕ → Bool) (w n : ℕ) (s : State) (over : is_over_of s ≡ false) where
  pub left_first : OthersLeaveUnchanged part w (suc n) s → LeavesAlone part w s
  left_first left = left 0 (omega arith) over

  pub left_later : OthersLeaveUnchanged part w (suc n) s → OthersLeaveUnchanged part w n (turn_of s)
  left_later left k h runs =
      subst (LeavesAlone part w) (turn_first k s over) (left (suc k) (omega (arith, h)) (subst (λ t. is_over_of t ≡ false) (sym (turn_first k s over)) runs))

  -- The warrior keeps to the part in the first turn and in each later one.
  pub keeps_first : StaysWithin part w (suc n) s → s.next ≡ w → AllPass part (touched_in_turn s)
  keeps_first keeps own =
      let mine : (s.next == w) ≡ true = ap (λ v. v == w) own ∙ same_eq w in
      All-left (λ a. part a ≡ true) (touched_in_turn s) (touched_in w n (turn_of s)) (rw (over, mine) at keeps)

  pub keeps_later : StaysWithin part w (suc n) s → StaysWithin part w n (turn_of s)
  keeps_later keeps = All-right (λ a. part a ≡ true) (cond (s.next == w) (touched_in_turn s) []) (touched_in w n (turn_of s)) (rw over at keeps)

-- The warrior keeps to the part in each of its turns.
keeps_at : (part : ℕ → Bool) (w k n : ℕ) (s : State) → k < n → is_over_of (after_turns k s) ≡ false → (after_turns k s).next ≡ w → StaysWithin part w n s → AllPass part (touched_in_turn (after_turns k s))
keeps_at part w k zero s h runs own keeps = absurd (omega (arith, h))
keeps_at part w zero (suc n) s h runs own keeps = keeps_first part w n s runs keeps own
keeps_at part w (suc k) (suc n) s h runs own keeps =
    elim (is_over_of s) as (λ b. is_over_of s ≡ b → is_over_of (if b then s else after_turns k (turn_of s)) ≡ false → (if b then s else after_turns k (turn_of s)).next ≡ w → AllPass part (touched_in_turn (if b then s else after_turns k (turn_of s)))) [
      | true ↦ λ over runs own. absurd cc
      | false ↦ λ over runs own. keeps_at part w k n (turn_of s) (omega (arith, h)) runs own (keeps_later part w n s over keeps)
    ] refl runs own

-- Only the warrior's own turns are counted.
pub own_counts : (w next n : ℕ) → next ≡ w → cond (next == w) 1 0 + n ≡ suc n
own_counts w next n e = rw (e, same_eq w) (omega arith)

pub other_counts : (w next n : ℕ) → next ≢ w → cond (next == w) 1 0 + n ≡ n
other_counts w next n other = rw (other_eq next w (λ e. other (sym e))) (omega arith)

module _ (part : ℕ → Bool) (w v : ℕ) where
  -- After a turn of another warrior in the second battle, both battles still agree on the warrior and the part.
  other_there : (s t : State) → t.next ≢ v → AgreesOn part w s v t → ((a : ℕ) → part a ≡ true → cell_at (turn_of t).core a ≡ cell_at t.core a) → AgreesOn part w s v (turn_of t)
  other_there s t other g left =
      agrees_back part v w (turn_of t) s (other_turn part v w t s (λ same. other (sym same)) (agrees_back part w v s t g) left)

  -- If the warrior has no more turns in the second battle, both battles still agree after the rest of it.
  rest : (n : ℕ) (s t : State) → IsValid t → AgreesOn part w s v t → OthersLeaveUnchanged part v n t → count_own_turns v n t ≡ 0 → AgreesOn part w s v (after_turns n t)
  rest zero s t u g left none = g
  rest (suc n) s t u g left none =
      elim (is_over_of t) as (λ b. is_over_of t ≡ b → (if b then 0 else cond (t.next == v) 1 0 + count_own_turns v n (turn_of t)) ≡ 0 → AgreesOn part w s v (if b then t else after_turns n (turn_of t))) [
        | true ↦ λ e none. g
        | false ↦ λ e none. elim (cases_eq t.next v) [
          | inl own ↦ absurd (let one = own_counts v t.next (count_own_turns v n (turn_of t)) own in omega (arith, one, none))
          | inr other ↦ (
              let same = other_counts v t.next (count_own_turns v n (turn_of t)) other in
              let on = other_there s t other g (left_first part v n t e left other) in
              rest n s (turn_of t) (turn_valid t u e) on (left_later part v n t e left) (sym same ∙ none)
              )
        ]
      ] refl none

  -- The warrior has its turn in the first battle, and the second battle is followed up to its turn there.
  meets : (m : ℕ) (s : State) → IsValid s → s.next ≡ w → AllPass part (touched_in_turn s)
      → ((n : ℕ) (t : State) → IsValid t → AgreesOn part w (turn_of s) v t → OthersLeaveUnchanged part v n t → count_own_turns w m (turn_of s) ≡ count_own_turns v n t → AgreesOn part w (after_turns m (turn_of s)) v (after_turns n t))
      → (n : ℕ) (t : State) → IsValid t → AgreesOn part w s v t → OthersLeaveUnchanged part v n t → suc (count_own_turns w m (turn_of s)) ≡ count_own_turns v n t
      → AgreesOn part w (after_turns m (turn_of s)) v (after_turns n t)
  meets m s valid own keeps on zero t u g left turns = absurd (omega (arith, turns))
  meets m s valid own keeps on (suc n) t u g left turns =
      elim (is_over_of t) as (λ b. is_over_of t ≡ b → suc (count_own_turns w m (turn_of s)) ≡ (if b then 0 else cond (t.next == v) 1 0 + count_own_turns v n (turn_of t)) → AgreesOn part w (after_turns m (turn_of s)) v (if b then t else after_turns n (turn_of t))) [
        | true ↦ λ e turns. absurd (omega (arith, turns))
        | false ↦ λ e turns. elim (cases_eq t.next v) [
          | inl same ↦ (
              let count = own_counts v t.next (count_own_turns v n (turn_of t)) same in
              let here : AgreesOn part s.next s t.next t = subst (λ x. AgreesOn part x s t.next t) (sym own) (subst (λ y. AgreesOn part w s y t) (sym same) g) in
              let there = own_turn part s t valid u here keeps in
              let next : AgreesOn part w (turn_of s) v (turn_of t) = subst (λ x. AgreesOn part x (turn_of s) v (turn_of t)) own (subst (λ y. AgreesOn part s.next (turn_of s) y (turn_of t)) same there) in
              on n (turn_of t) (turn_valid t u e) next (left_later part v n t e left) (omega (arith, turns, count))
              )
          | inr other ↦ (
              let same = other_counts v t.next (count_own_turns v n (turn_of t)) other in
              let next = other_there s t other g (left_first part v n t e left other) in
              meets m s valid own keeps on n (turn_of t) (turn_valid t u e) next (left_later part v n t e left) (turns ∙ same)
              )
        ]
      ] refl turns

  -- After equally many turns of its own, the warrior is alike in both battles.
  pub fights_alike : (m n : ℕ) (s t : State) → IsValid s → IsValid t → AgreesOn part w s v t → StaysWithin part w m s → OthersLeaveUnchanged part w m s → OthersLeaveUnchanged part v n t → count_own_turns w m s ≡ count_own_turns v n t → AgreesOn part w (after_turns m s) v (after_turns n t)
  fights_alike zero n s t valid u g keeps left left_there turns = rest n s t u g left_there (sym turns)
  fights_alike (suc m) n s t valid u g keeps left left_there turns =
      elim (is_over_of s) as (λ b. is_over_of s ≡ b → (if b then 0 else cond (s.next == w) 1 0 + count_own_turns w m (turn_of s)) ≡ count_own_turns v n t → AgreesOn part w (if b then s else after_turns m (turn_of s)) v (after_turns n t)) [
        | true ↦ λ e turns. rest n s t u g left_there (sym turns)
        | false ↦ λ e turns. elim (cases_eq s.next w) [
          | inl own ↦ (
              let count = own_counts w s.next (count_own_turns w m (turn_of s)) own in
              meets m s valid own (keeps_first part w m s e keeps own)
              (λ n t u g left_there turns. fights_alike m n (turn_of s) t (turn_valid s valid e) u g (keeps_later part w m s e keeps) (left_later part w m s e left) left_there turns)
              n t u g left_there (sym count ∙ turns)
              )
          | inr other ↦ (
              let same = other_counts w s.next (count_own_turns w m (turn_of s)) other in
              let next = other_turn part w v s t (λ e. other (sym e)) g (left_first part w m s e left other) in
              fights_alike m n (turn_of s) t (turn_valid s valid e) u next (keeps_later part w m s e keeps) (left_later part w m s e left) left_there (sym same ∙ turns)
              )
        ]
      ] refl turns

-- If each warrior keeps to its own cells, no warrior changes a cell of another.
pub own_cells_left : (owner : ℕ → ℕ) (n : ℕ) (s : State) → IsValid s → ((w : ℕ) → w < length s.queues → StaysWithin (λ a. owner a == w) w n s) → (w : ℕ) → OthersLeaveUnchanged (λ a. owner a == w) w n s
own_cells_left owner n s valid keeps w k h over other a mine =
    let t = after_turns k s in
    let valid_then = valid_after k s valid in
    let known : t.next < length s.queues = subst (λ n. t.next < n) (shape_after k s).warriors valid_then.clock.next in
    let beside : (b : ℕ) → (owner b == t.next) ≡ true → a ≢ b =
    λ b theirs same. other (sym (eq_same (owner b) t.next theirs) ∙ ap owner (sym same) ∙ eq_same (owner a) w mine) in
    untouched_stays t a valid_then
    (All-weaker (λ b. (owner b == t.next) ≡ true) (λ b. a ≢ b) beside (touched_in_turn t) (keeps_at (λ b. owner b == t.next) t.next k n s h over refl (keeps t.next known)))
