-- A battle that is shifted in the core continues as it would have without the shift.
use Rattle.std.proofs.Common.{◌≡◌, ◌≢◌, ℕ, zero, suc, ◌+◌, ◌-◌, ◌%◌, ◌<◌, true, false, cond, List, [], ◌∷◌, ◌++◌, length, map, take, drop, refl, ap, sym, ◌∙◌, subst, arith, inl, inr}
use Rattle.std.specs.Prelude.{◌⊎◌, if◌then◌else◌, option_map}
use Rattle.std.proofs.Math.Nat.{mod-eq_of_lt, mod-eq-sub-mod, mod-add-mod}
use Rattle.std.proofs.lemmas.Bool.{cases_lt}
use Rattle.std.proofs.lemmas.List.{length-map, length-append, length-take, length-drop, drop-map, take-map, map-append, map-set, get_or-map, get_or-drop, get_or-take, get_or_append_left, get_or-append-add, ext_get_or}
use Rattle.std.proofs.lemmas.List.Sums.{sum_by-cons}
use Rattle.mars_cell.specs.declared.instruction.Cell.{Cell}
use Rattle.mars_cell.specs.Cells.{empty_cell}
use Rattle.mars_cell.specs.Parameters.{Parameters, AreInRange}
use Rattle.mars_core.specs.State.{State, cell_at, queue_of, is_empty, first_live, live_from, survivors_of, is_over_of, ends, advanced, advance, clock_of}
use Rattle.mars_core.specs.Addresses.{address_after}
use Rattle.mars_core.specs.Moved.{moved_core, moved}
use Rattle.mars_core.specs.Turn.{front_of, front_execution, accepted, queue_after, executed, turn_of, after_turns}
use Rattle.mars_core.specs.Validity.{IsCore, IsQueue, IsValid}
use Rattle.mars_core.specs.declared.machine.clock.Clock.{Clock}
use Rattle.mars_core.proofs.ForLaws.Alike.{Corresponds, Alike, AlikeExecution, execution_alike}
use Rattle.mars_core.proofs.TouchedInside.{touched_inside}
use Rattle.mars_core.proofs.CallerLemmas.{shape-turn_of}
use Rattle.mars_core.proofs.Fits.{address_inside}
use Rattle.mars_core.proofs.Turns.{running, turn_valid, filled_length, queue_fits}
use Rattle.std.proofs.lemmas.List.Elements.{All-get_or}

-- The sum of two addresses exceeds the core at most once.
wrapped : (m a k : ℕ) → a < m → k < m → (((a + k) % m ≡ a + k) × (a + k < m)) ⊎ ((a + k) % m + m ≡ a + k)
wrapped m a k h l =
    elim (cases_lt (a + k) m) [
      | inl less ↦ inl (mod-eq_of_lt less, less)
      | inr more ↦ inr (let back = mod-eq-sub-mod more ∙ mod-eq_of_lt {n = a + k - m} {m = m} (omega (arith, h, l)) in omega (arith, back, more))
    ]

-- Mapping a queue after a turn is mapping the queue before the turn and the addresses that the turn queues.
queued_there : (f : ℕ → ℕ) (limit : ℕ) (q queued : List ℕ) → drop 1 (map f q) ++ take (limit - length (drop 1 (map f q))) (map f queued) ≡ map f (drop 1 q ++ take (limit - length (drop 1 q)) queued)
queued_there f limit [] queued = take-map f (limit - 0) queued
queued_there f limit (x ∷ q) queued = rw (length-map q f, take-map f (limit - length q) queued, map-append f q (take (limit - length q) queued)) refl

module _ (p : Parameters) (r : AreInRange p) (k : ℕ) (h : k < p.core_size) where
  abbrev m : ℕ
  m = p.core_size

  -- The address to which `a` is shifted.
  abbrev there : ℕ → ℕ
  there a = address_after m a k

  abbrev Near : ℕ → Type 0
  Near a = a < m

  pub one : (a b : ℕ) → a < m → b < m → there a ≡ there b → a ≡ b
  unfolding address_after
  one a b l n e =
      elim (wrapped m a k l h) [
        | inl x ↦ elim (wrapped m b k n h) [ inl y ↦ omega (arith, x.0, y.0, e) | inr y ↦ absurd (omega (arith, x.0, x.1, y, e, n)) ]
        | inr x ↦ elim (wrapped m b k n h) [ inl y ↦ absurd (omega (arith, x, y.0, y.1, e, l)) | inr y ↦ omega (arith, x, y, e) ]
      ]

  -- Each address is the shifted address of some address.
  origin : (i : ℕ) → i < m → (a : ℕ) × (a < m) × (there a ≡ i)
  unfolding address_after
  origin i l =
      elim (cases_lt i k) [
        | inl less ↦ (
            let a = i + (m - k) in
            let inside : a < m = omega (arith, less, h) in
            (a, inside, elim (wrapped m a k inside h) [ inl x ↦ absurd (omega (arith, x.1, h)) | inr y ↦ omega (arith, y, h) ])
            )
        | inr more ↦ (
            let a = i - k in
            let inside : a < m = omega (arith, l) in
            (a, inside, elim (wrapped m a k inside h) [ inl x ↦ omega (arith, x.0, more) | inr y ↦ absurd (omega (arith, y, more, l)) ])
            )
      ]

  moved_cell : (core : List Cell) → length core ≡ m → (a : ℕ) → a < m → cell_at (moved_core m k core) (there a) ≡ cell_at core a
  unfolding address_after
  moved_cell core size a l =
      let last = drop (m - k) core in
      let first = take (m - k) core in
      let long : length last ≡ k = length-drop (m - k) core ∙ omega (arith, size, h) in
      elim (wrapped m a k l h) [
        | inl x ↦
            ap (cell_at (last ++ first)) (x.0 ∙ omega (arith, long)) ∙ get_or-append-add last first a empty_cell
            ∙ get_or-take (m - k) core a empty_cell (omega (arith, x.1))
        | inr y ↦
            get_or_append_left last first empty_cell ((a + k) % m) (omega (arith, long, y, l)) ∙ get_or-drop (m - k) core ((a + k) % m) empty_cell
            ∙ ap (cell_at core) (omega (arith, y, h))
      ]

  pub moved_alike : (core : List Cell) → length core ≡ m → Alike m there Near core (moved_core m k core)
  moved_alike core size = record {
    size = size;
    size_there = length-append (drop (m - k) core) (take (m - k) core) ∙ simp (length-drop, length-take) (omega (arith, size, h));
    cells = moved_cell core size;
  }

  pub one_core : (core first second : List Cell) → Alike m there Near core first → Alike m there Near core second → first ≡ second
  one_core core first second f s =
      ext_get_or empty_cell first second (f.size_there ∙ sym s.size_there)
      (λ i l.
      let from = origin i (subst (λ n. i < n) f.size_there l) in
      subst (λ j. cell_at first j ≡ cell_at second j) from.2 (f.cells from.0 from.1 ∙ sym (s.cells from.0 from.1)))

  step : (pc d : ℕ) → address_after m (there pc) d ≡ there (address_after m pc d)
  unfolding address_after
  step pc d = mod-add-mod (pc + k) m d ∙ ap (λ n. n % m) (omega arith) ∙ sym (mod-add-mod (pc + d) m k)

  -- The clock depends only on which warriors live.
  first_moved : (qs : List (List ℕ)) → first_live (map (map there) qs) ≡ first_live qs
  first_moved [] = refl
  first_moved ([] ∷ qs) = ap (option_map suc) (first_moved qs)
  first_moved ((x ∷ q) ∷ qs) = refl

  live_moved : (qs : List (List ℕ)) (i : ℕ) → live_from (map (map there) qs) i ≡ live_from qs i
  live_moved qs i = rw (drop-map (map there) i qs, first_moved (drop i qs)) refl

  empty_moved : (q : List ℕ) → is_empty (map there q) ≡ is_empty q
  empty_moved [] = refl
  empty_moved (x ∷ q) = refl

  survivors_moved : (qs : List (List ℕ)) → survivors_of (map (map there) qs) ≡ survivors_of qs
  survivors_moved [] = refl
  survivors_moved (q ∷ qs) =
      sum_by-cons (λ (q : List ℕ). cond (is_empty q) 0 1) (map there q) (map (map there) qs)
      ∙ rw (empty_moved q, survivors_moved qs) (sym (sum_by-cons (λ (q : List ℕ). cond (is_empty q) 0 1) q qs))

  advanced_moved : (qs : List (List ℕ)) (clock : Clock) (i : ℕ) → advanced (map (map there) qs) clock i ≡ advanced qs clock i
  unfolding advanced
  advanced_moved qs clock i = rw (live_moved qs i, live_moved qs 0) refl

  front_moved : (q : List ℕ) → q ≢ [] → front_of (map there q) ≡ there (front_of q)
  front_moved [] n = absurd (n refl)
  front_moved (x ∷ q) n = refl

  -- An instruction corresponds to the shifted instruction.
  pub corresponds : (pc : ℕ) → pc < m → Corresponds p there Near pc (address_after m pc k)
  corresponds pc l = record {
    one = one;
    inside = λ a n. n;
    inside_there = λ a n. address_inside m a k r.core_least;
    step = step pc;
    start = l;
    start_there = address_inside m pc k r.core_least;
  }

  module _ (core : List Cell) (fits : IsCore m core) (q : List ℕ) (stands : IsQueue m p.processes q) (lives : q ≢ []) where
    pc_inside : front_of q < m
    pc_inside = All-get_or (λ a. a < m) q 0 0 (filled_length q lives) stands.addresses

    executes_alike : AlikeExecution p there Near (front_of q) (address_after m (front_of q) k) (corresponds (front_of q) pc_inside) (front_execution p core q) (front_execution p (moved_core m k core) (map there q))
    executes_alike =
        rw (front_moved q lives)
        (execution_alike p there Near (front_of q) (address_after m (front_of q) k) (corresponds (front_of q) pc_inside) core _ (moved_alike core fits.size) (touched_inside p r (front_of q) pc_inside core))

    core_moved : (front_execution p (moved_core m k core) (map there q)).written.core ≡ moved_core m k (front_execution p core q).written.core
    core_moved =
        let cores = executes_alike.written.cores in
        one_core (front_execution p core q).written.core _ _ cores (moved_alike (front_execution p core q).written.core cores.size)

    queue_moved : queue_after p (moved_core m k core) (map there q) ≡ map there (queue_after p core q)
    unfolding accepted
    queue_moved =
        rw executes_alike.queued (queued_there there p.processes q (front_execution p core q).queued)

advance_moved : (s : State) (k : ℕ) → AreInRange s.params → k < s.params.core_size → (i : ℕ) → advance (moved k s) i ≡ moved k (advance s i)
advance_moved s k r h i = rw (advanced_moved s.params r k h s.queues (clock_of s) i) refl

-- The battle, shifted by `k` cells.
module _ (s : State) (k : ℕ) (v : IsValid s) (h : k < s.params.core_size) where
  over_moved : is_over_of (moved k s) ≡ is_over_of s
  unfolding ends
  over_moved = rw (length-map, survivors_moved s.params v.params k h s.queues) refl

  module _ (over : is_over_of s ≡ false) where
    executed_moved : executed (moved k s) ≡ moved k (executed s)
    unfolding executed
    executed_moved =
        let m = s.params.core_size in
        let f : ℕ → ℕ = λ a. address_after m a k in
        let q = queue_of s.queues s.next in
        let lives = v.clock.next_lives (running s.params.cycles s.cycle s.queues v.some over).alive in
        let stands = queue_fits s v s.next v.clock.next in
        let at : queue_of (map (map f) s.queues) s.next ≡ map f q = get_or-map (map f) s.queues s.next [] [] v.clock.next in
        rw (
          at,
          core_moved s.params v.params k h s.core v.core q stands lives,
          queue_moved s.params v.params k h s.core v.core q stands lives,
          empty_moved s.params v.params k h (queue_after s.params s.core q),
          ← map-set (map f) s.queues s.next (queue_after s.params s.core q),
        )
        refl

    range : AreInRange (executed s).params
    unfolding executed
    range = v.params

    inside : k < (executed s).params.core_size
    unfolding executed
    inside = h

    pub turn_moved : turn_of (moved k s) ≡ moved k (turn_of s)
    unfolding turn_of
    turn_moved = ap (λ t. advance t (s.next + 1)) executed_moved ∙ advance_moved (executed s) k range inside (s.next + 1)

pub turns_moved : (n : ℕ) (s : State) (k : ℕ) → IsValid s → k < s.params.core_size → after_turns n (moved k s) ≡ moved k (after_turns n s)
turns_moved zero s k v h = refl
turns_moved (suc n) s k v h =
    rw (over_moved s k v h)
    (elim (is_over_of s) as (λ b. is_over_of s ≡ b → (if b then moved k s else after_turns n (turn_of (moved k s))) ≡ moved k (if b then s else after_turns n (turn_of s))) [
      | true ↦ λ e. refl
      | false ↦ λ e. (
          let inside = subst (λ (p : Parameters). k < p.core_size) (sym (shape-turn_of s).params) h in
          ap (after_turns n) (turn_moved s k v h e) ∙ turns_moved n (turn_of s) k (turn_valid s v e) inside
          )
    ] refl)
