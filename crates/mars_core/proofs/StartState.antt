-- The state at the start is valid.
use Rattle.std.proofs.Common.{◌≡◌, ◌≢◌, ℕ, zero, suc, ◌+◌, ◌<◌, ◌≤◌, List, [], ◌∷◌, length, get_or, map, All, refl, ap, sym, ◌∙◌, subst, arith, Bool, true, false, cond, None}
use Rattle.std.specs.List.{list_all}
use Rattle.std.proofs.lemmas.List.{length-map}
use Rattle.std.proofs.lemmas.List.Sums.{sum_by-cons}
use Rattle.std.proofs.lemmas.List.Elements.{All-from_get_or, All-map, All-nil, All-weaker}
use Rattle.std.proofs.lemmas.Bool.Decides.{nat_tests}
use Rattle.std.proofs.lemmas.Grind.{elements}
use Rattle.mars_cell.specs.declared.instruction.Cell.{Cell}
use Rattle.mars_cell.specs.Cells.{FitsCore, empty_cell}
use Rattle.mars_cell.specs.Parameters.{Parameters, AreInRange}
use Rattle.mars_cell.specs.Warriors.{WarriorValue}
use Rattle.mars_core.specs.Limits.{max_warriors}
use Rattle.mars_core.specs.State.{is_empty, survivors_of, queue_of, state_of}
use Rattle.mars_core.specs.Validity.{IsCore, IsQueue, IsValid}
use Rattle.mars_core.specs.Start.{is_inside, fields_inside, first_processes, start_fault}
use Rattle.std.proofs.Math.Nat.{mod-lt}
use Rattle.std.proofs.lemmas.Bool.{true≢false, and_parts}
use Rattle.mars_core.specs.declared.deaths.Death.{Death}
use Rattle.mars_core.specs.Queue.{Queue, addresses_of}

both_inside : (m : ℕ) (cell : Cell) → is_inside m cell ≡ true → FitsCore m cell
both_inside m cell h = record { a = grind (arith, nat_tests); b = grind (arith, nat_tests) }

each_inside : (m : ℕ) (cells : List Cell) → list_all (is_inside m) cells ≡ true → All (FitsCore m) cells
each_inside m cells h =
    All-from_get_or (FitsCore m) cells empty_cell (λ i k. both_inside m (get_or cells i empty_cell) (at cells i k h)) where
      at : (cells : List Cell) (i : ℕ) → i < length cells → list_all (is_inside m) cells ≡ true → is_inside m (get_or cells i empty_cell) ≡ true
      at [] i k h = absurd (omega arith)
      at (cell ∷ cells) zero k h = (and_parts _ _ h).0
      at (cell ∷ cells) (suc i) k h = at cells i (omega arith) (and_parts _ _ h).1

-- The cells of the warrior at an index fit the core.
pub inside_at : (m : ℕ) (ws : List WarriorValue) (i : ℕ) (w : WarriorValue) → i < length ws → w ≡ get_or ws i w → fields_inside m ws ≡ true → All (FitsCore m) w.cells
inside_at m [] i w k is h = absurd (omega arith)
inside_at m (v ∷ ws) zero w k is h = subst (λ (x : WarriorValue). All (FitsCore m) x.cells) (sym is) (each_inside m v.cells (and_parts _ _ h).0)
inside_at m (v ∷ ws) (suc i) w k is h = inside_at m ws i w (omega arith) is (and_parts (list_all (is_inside m) v.cells) _ h).1

-- A queue of one process.
abbrev pub one : ℕ → List ℕ
one a = a ∷ []

first_length : (m : ℕ) (ws : List WarriorValue) (ss : List ℕ) → length ss ≡ length ws → length (first_processes m ws ss) ≡ length ws
first_length m [] ss h = refl
first_length m (w ∷ ws) [] h = absurd (omega arith)
first_length m (w ∷ ws) (s ∷ ss) h = ap suc (first_length m ws ss (omega arith))

first_at : (m : ℕ) (ws : List WarriorValue) (ss : List ℕ) (i : ℕ) → 1 ≤ m → i < length (first_processes m ws ss) → get_or (first_processes m ws ss) i 0 < m
first_at m [] ss i p h = absurd (omega arith)
first_at m (w ∷ ws) [] i p h = absurd (omega arith)
first_at m (w ∷ ws) (s ∷ ss) zero p h = mod-lt (s + w.start) p
first_at m (w ∷ ws) (s ∷ ss) (suc i) p h = first_at m ws ss i p (omega arith)

one_filled : (xs : List ℕ) (i : ℕ) → i < length (map one xs) → is_empty (get_or (map one xs) i []) ≡ false
one_filled [] i h = absurd (omega arith)
one_filled (a ∷ xs) zero h = refl
one_filled (a ∷ xs) (suc i) h = one_filled xs i (omega arith)

all_live : (xs : List ℕ) → survivors_of (map one xs) ≡ length xs
all_live [] = refl
all_live (a ∷ xs) = omega (arith, sum_by-cons (λ (q : List ℕ). cond (is_empty q) 0 1) (one a) (map one xs), all_live xs)

one_inside : (m : ℕ) (a : ℕ) → a < m → All (λ x. x < m) (one a)
one_inside m a h = grind (arith, elements)

queue_of_one : (m n a : ℕ) → 1 ≤ n → a < m → IsQueue m n (one a)
queue_of_one m n a p h = record { addresses = one_inside m a h; room = omega arith }

no_fault : (p : Parameters) (ws : List WarriorValue) (ss : List ℕ) → start_fault p ws ss ≡ None → (1 ≤ length ws) × (length ws ≤ max_warriors)
no_fault p ws ss h = (grind (arith, nat_tests), grind (arith, nat_tests))

module _ (p : Parameters) (ws : List WarriorValue) (ss : List ℕ) (core : List Cell) (r : AreInRange p) (lengths : length ss ≡ length ws) (fine : start_fault p ws ss ≡ None) (c : IsCore p.core_size core) where
  firsts : List ℕ
  firsts = first_processes p.core_size ws ss

  many : length (map one firsts) ≡ length ws
  unfolding firsts
  many = simp length-map (first_length p.core_size ws ss lengths)

  firsts_inside : All (λ a. a < p.core_size) firsts
  unfolding firsts
  firsts_inside = All-from_get_or (λ a. a < p.core_size) firsts 0 (λ i h. first_at p.core_size ws ss i r.core_least h)

  filled : (w : ℕ) → w < length (map one firsts) → queue_of (map one firsts) w ≢ []
  filled w h e = let f = one_filled firsts w h in absurd (true≢false (ap is_empty (sym e) ∙ f))

  start_valid : IsValid (record { params = p; core = core; queues = map one firsts; next = 0; cycle = 0; turns = 0; deaths = [] })
  start_valid =
      let some = (no_fault p ws ss fine).0 in
      let few = (no_fault p ws ss fine).1 in
      record {
        params = r;
        core = c;
        some = rw many some;
        few = rw many few;
        queues = All-map (IsQueue p.core_size p.processes) one firsts (All-weaker (λ a. a < p.core_size) (λ a. IsQueue p.core_size p.processes (one a)) (λ a h. queue_of_one p.core_size p.processes a r.processes_least h) firsts firsts_inside);
        deaths = record {
          once = λ w h. sym (ap (λ (b : Bool). let n : ℕ = cond b 1 0 in n) (one_filled firsts w h));
          known = All-nil (λ (d : Death). d.warrior < length (map one firsts));
        };
        clock = record {
          next = rw many some;
          next_lives = λ _. filled 0 (rw many some);
          cycle = omega arith;
          last_cycle = λ e _. absurd (omega (arith, r.cycles_least));
          turns = omega arith;
          turns_alive = λ _. omega arith;
        };
      }

  -- The battle's state at the start is valid.
  pub started_valid : (qs : List Queue) → addresses_of qs ≡ map one (first_processes p.core_size ws ss) → IsValid (state_of p core qs 0 0 0 [])
  unfolding firsts
  started_valid qs e =
      subst (λ (queues : List (List ℕ)). IsValid (record { params = p; core = core; queues = queues; next = 0; cycle = 0; turns = 0; deaths = [] })) (sym e) start_valid

  -- All warriors live at the start.
  pub started_counted : (qs : List Queue) → addresses_of qs ≡ map one (first_processes p.core_size ws ss) → survivors_of (addresses_of qs) ≡ length qs
  unfolding firsts
  started_counted qs e =
      let same = simp length-map at (ap length e) in
      rw e (all_live firsts) ∙ sym same
