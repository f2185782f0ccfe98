-- Cells before the writes of a turn, and the past of cells.
use Rattle.std.proofs.Common.{◌≡◌, ◌≢◌, ℕ, zero, suc, ◌+◌, ◌<◌, ◌≤◌, ◌==◌, Option, Bool, true, false, not, if◌then◌else◌, List, [], ◌∷◌, length, get_or, set, drop, drop-cons, add-one, refl, ap, sym, ◌∙◌, arith}
use Rattle.std.proofs.lemmas.Bool.{eqb-true, eqb-false, true≢false}
use Rattle.std.proofs.lemmas.List.FromFn.{fill_by_all, length-map-range_with_len}
use Rattle.std.proofs.lemmas.List.{length-set, get_or_default, get_or-set_same, get_or-set_other}
use Rattle.mars_cell.specs.declared.instruction.Cell.{Cell}
use Rattle.mars_cell.specs.Cells.{empty_cell}
use Rattle.mars_core.specs.State.{State, cell_at, is_over_of, queue_of}
use Rattle.mars_core.specs.Turn.{after_turns, executed, front_of, turn_of, turn_record}
use Rattle.mars_core.specs.Past.{changes, comes_from, copy_in_turn, followed, past_after, past_at, pasts_after}
use Rattle.mars_core.specs.Record.{restored}
use Rattle.mars_core.specs.Effect.{are_equal_cells}
use Rattle.mars_core.specs.declared.machine.writes.CellChange.{CellChange}
use Rattle.mars_core.specs.declared.machine.copy.CellCopy.{CellCopy}
use Rattle.mars_core.specs.declared.past.Past.{Past}
use Rattle.mars_core.proofs.Inside.{AreInside, execution_inside}
use Rattle.mars_core.proofs.Restored.{origin-execution}
use Rattle.mars_core.proofs.SameCells.{equal_cells_same}

pub length-restored : (writes : List CellChange) (core : List Cell) → length (restored writes core) ≡ length core
length-restored [] core = refl
length-restored (w ∷ writes) core = length-set (restored writes core) w.address w.before ∙ length-restored writes core

-- The writes from the index `i` on begin with the write there.
rest : (writes : List CellChange) (core : List Cell) (i : ℕ) (w : CellChange) → i < length writes → get_or writes i w ≡ w
    → restored (drop i writes) core ≡ set (restored (drop (i + 1) writes) core) w.address w.before
rest writes core i w inside is =
    ap (λ l. restored l core) (drop-cons writes i w inside) ∙ rw (is, add-one) refl

-- Before the write at the index `i`, the cell at its address is the previous cell of this write.
pub first_write : (writes : List CellChange) (core : List Cell) (i a : ℕ) (w : CellChange) → i < length writes → get_or writes i w ≡ w
    → w.address ≡ a → a < length core → cell_at (restored (drop i writes) core) a ≡ w.before
first_write writes core i a w inside is here there =
    ap (λ l. cell_at l a) (rest writes core i w inside is ∙ ap (λ x. set (restored (drop (i + 1) writes) core) x w.before) here)
    ∙ get_or-set_same (restored (drop (i + 1) writes) core) a w.before empty_cell (rw length-restored there)

-- A cell at another address is the same before and after the write at the index `i`.
pub other_write : (writes : List CellChange) (core : List Cell) (i a : ℕ) (w : CellChange) → i < length writes → get_or writes i w ≡ w
    → w.address ≢ a → cell_at (restored (drop i writes) core) a ≡ cell_at (restored (drop (i + 1) writes) core) a
other_write writes core i a w inside is other =
    ap (λ l. cell_at l a) (rest writes core i w inside is)
    ∙ get_or-set_other (restored (drop (i + 1) writes) core) w.address a w.before empty_cell (λ e. other (sym e))

-- The cell at the address `a` of the core differs from the cell before the writes.
abbrev pub differs : List CellChange → List Cell → ℕ → Bool
differs writes core a = not (are_equal_cells (cell_at (restored writes core) a) (cell_at core a))

-- The past of a cell after a change.
abbrev pub changed_by : ℕ → ℕ → Past → Past
changed_by owner turn past = record { owner = owner; turn = turn; origin = past.origin }

same_cell : (x : Cell) → are_equal_cells x x ≡ true
same_cell x = (equal_cells_same x x).1 refl

-- Only cells at the addresses of writes differ.
pub written_if_differs : (writes : List CellChange) (core : List Cell) (a : ℕ) (d : CellChange) → a < length core → differs writes core a ≡ true
    → (k : ℕ) × (k < length writes) × ((get_or writes k d).address ≡ a)
written_if_differs [] core a d there e = absurd (true≢false (sym e ∙ ap not (same_cell (cell_at core a))))
written_if_differs (w ∷ writes) core a d there e =
    elim (w.address == a) as (λ b. (w.address == a) ≡ b → (k : ℕ) × (k < length (w ∷ writes)) × ((get_or (w ∷ writes) k d).address ≡ a)) [
      | true ↦ λ same. (0, omega arith, eqb-true w.address a same)
      | false ↦ λ other.
          let at : cell_at (set (restored writes core) w.address w.before) a ≡ cell_at (restored writes core) a =
          get_or-set_other (restored writes core) w.address a w.before empty_cell (λ e. eqb-false w.address a other (sym e)) in
          let found = written_if_differs writes core a d there (ap (λ x. not (are_equal_cells x (cell_at core a))) (sym at) ∙ e) in
          (suc found.0, omega (arith, found.1), found.2)
    ] refl

-- The pasts after the changes by the writes before the index `i` are noted; `old` are the pasts before all writes.
pub record AreNoted (owner turn : ℕ) (writes : List CellChange) (core : List Cell) (old : List Past) (i : ℕ) (pasts : List Past) : Type 0 where
  pub size : length pasts ≡ length old
  pub origins : (a : ℕ) → a < length old → (past_at pasts a).origin ≡ (past_at old a).origin
  pub kept : (a : ℕ) → a < length old → differs writes core a ≡ false → past_at pasts a ≡ past_at old a
  pub noted : (a k : ℕ) (d : CellChange) → a < length old → k < i → (get_or writes k d).address ≡ a
      → differs writes core a ≡ true → past_at pasts a ≡ changed_by owner turn (past_at old a)

module _ (owner turn : ℕ) (writes : List CellChange) (core : List Cell) (old : List Past) (i : ℕ) (pasts : List Past)
    (w : CellChange) (inside : i < length writes) (is : get_or writes i w ≡ w) (n : AreNoted owner turn writes core old i pasts) where
  -- The next write is at a cell that all writes together leave as it was.
  pub note_same : differs writes core w.address ≡ false → AreNoted owner turn writes core old (i + 1) pasts
  note_same same = record {
    size = n.size;
    origins = n.origins;
    kept = n.kept;
    noted = λ a k d there below at e.
        elim (k == i) as (λ b. (k == i) ≡ b → past_at pasts a ≡ changed_by owner turn (past_at old a)) [
          | true ↦ λ last.
              let here : w.address ≡ a = ap (λ (x : CellChange). x.address) (sym is ∙ get_or_default writes i w d inside) ∙ ap (λ j. (get_or writes j d).address) (sym (eqb-true k i last)) ∙ at in
              absurd (cc (ap (differs writes core) here))
          | false ↦ λ other. let less = eqb-false k i other in n.noted a k d there (omega arith) at e
        ] refl;
  }

  -- The next write is at a cell that all writes together change.
  pub note_change : (origin : ℕ) → w.address < length old → origin ≡ (past_at pasts w.address).origin → differs writes core w.address ≡ true
      → AreNoted owner turn writes core old (i + 1) (set pasts w.address (record { owner = owner; turn = turn; origin = origin }))
  note_change origin here origin_is differ =
      let new : Past = record { owner = owner; turn = turn; origin = origin } in
      let after = set pasts w.address new in
      let room : w.address < length pasts = rw n.size here in
      let same : past_at after w.address ≡ new = get_or-set_same pasts w.address new _ room in
      let other : (a : ℕ) → a ≢ w.address → past_at after a ≡ past_at pasts a = λ a e. get_or-set_other pasts w.address a new _ e in
      let old_origin : origin ≡ (past_at old w.address).origin = origin_is ∙ n.origins w.address here in
      record {
        size = length-set pasts w.address new ∙ n.size;
        origins = λ a there.
            elim (a == w.address) as (λ b. (a == w.address) ≡ b → (past_at after a).origin ≡ (past_at old a).origin) [
              | true ↦ λ e. rw (eqb-true a w.address e) (ap (λ (p : Past). p.origin) same ∙ old_origin)
              | false ↦ λ e. ap (λ (p : Past). p.origin) (other a (eqb-false a w.address e)) ∙ n.origins a there
            ] refl;
        kept = λ a there e.
            other a (λ at. cc (ap (differs writes core) at)) ∙ n.kept a there e;
        noted = λ a k d there below at e.
            elim (a == w.address) as (λ b. (a == w.address) ≡ b → past_at after a ≡ changed_by owner turn (past_at old a)) [
              | true ↦ λ here. rw (eqb-true a w.address here) (same ∙ ap (λ o. record { owner = owner; turn = turn; origin = o }) old_origin)
              | false ↦ λ apart.
                  let elsewhere = eqb-false a w.address apart in
                  let before : k ≢ i = λ last. elsewhere (sym at ∙ ap (λ j. (get_or writes j d).address) last ∙ ap (λ (x : CellChange). x.address) (get_or_default writes i d w inside ∙ is)) in
                  other a elsewhere ∙ n.noted a k d there (omega (arith, before)) at e
            ] refl;
      }

-- When all writes are noted, so are all changes.
pub all_noted : (owner turn : ℕ) (writes : List CellChange) (core : List Cell) (old pasts : List Past) → length old ≡ length core
    → AreNoted owner turn writes core old (length writes) pasts → (a : ℕ) → a < length old
    → past_at pasts a ≡ (if differs writes core a then changed_by owner turn (past_at old a) else past_at old a)
all_noted owner turn writes core old pasts size n a there =
    elim (differs writes core a) as (λ b. differs writes core a ≡ b → past_at pasts a ≡ (if b then changed_by owner turn (past_at old a) else past_at old a)) [
      | true ↦ λ e.
          let d : CellChange = record { address = 0; before = empty_cell; after = empty_cell } in
          let here : a < length core = rw (← size) there in
          let found = written_if_differs writes core a d here e in
          n.noted a found.0 d there found.1 found.2 e
      | false ↦ λ e. n.kept a there e
    ] refl

-- A past with another owner and turn if the test succeeds, and with another origin in any case.
joined : (test : Bool) (owner turn origin : ℕ) (past : Past)
    → (if test then record { owner = owner; turn = turn; origin = origin } else record past { origin = origin })
    ≡ record { owner = if test then owner else past.owner; turn = if test then turn else past.turn; origin = origin }
joined true owner turn origin past = refl
joined false owner turn origin past = refl

module _ (s : State) where
  -- Undoing the writes of the turn gives the core before it.
  pub undone : restored (turn_record s).cells.items (turn_of s).core ≡ s.core
  unfolding turn_record turn_of executed
  undone = origin-execution s.params s.core (front_of (queue_of s.queues s.next))

  pub writes_inside : 1 ≤ s.params.core_size → AreInside s.params.core_size (turn_record s).cells.items
  unfolding turn_record
  writes_inside positive = execution_inside s.params positive s.core (front_of (queue_of s.queues s.next))

  -- The notes of the copy and of the changes are the pasts after the turn.
  pub all_followed : (old copied new : List Past) (copy : Option CellCopy) (writes : List CellChange) (core : List Cell) (owner turn : ℕ)
      → length copied ≡ length old → length new ≡ length old → copy ≡ copy_in_turn s → writes ≡ (turn_record s).cells.items → core ≡ (turn_of s).core
      → owner ≡ s.next → turn ≡ s.turns + 1
      → ((a : ℕ) → a < length old → past_at copied a ≡ record (past_at old a) { origin = (past_at old (comes_from copy a)).origin })
      → ((a : ℕ) → a < length copied → past_at new a ≡ (if differs writes core a then changed_by owner turn (past_at copied a) else past_at copied a))
      → new ≡ pasts_after s old
  unfolding pasts_after
  all_followed old copied new copy writes core owner turn size_copied size copy_is writes_are core_is owner_is turn_is copies changed =
      fill_by_all (past_after s old) new (length old) _ size (λ a there.
      let before : restored writes core ≡ s.core = rw (writes_are, core_is) undone in
      let test : differs writes core a ≡ changes s a =
      ap (λ c. not (are_equal_cells (cell_at c a) (cell_at core a))) before ∙ ap (λ c. not (are_equal_cells (cell_at s.core a) (cell_at c a))) core_is in
      let copied_is = copies a there ∙ ap (λ c. record (past_at old a) { origin = (past_at old (comes_from c a)).origin }) copy_is in
      changed a (rw size_copied there)
      ∙ rw (test, copied_is, owner_is, turn_is) (joined (changes s a) s.next (s.turns + 1) (past_at old (comes_from (copy_in_turn s) a)).origin (past_at old a)))

-- Following the turns that are left begins with the next turn.
pub followed-turn : (n k : ℕ) (s : State) (pasts : List Past) → n ≡ k + 1 → is_over_of s ≡ false → followed n s pasts ≡ followed k (turn_of s) (pasts_after s pasts)
followed-turn n k s pasts e running = ap (λ m. followed m s pasts) e ∙ rw (add-one, running) refl

pub followed-over : (n : ℕ) (s : State) (pasts : List Past) → is_over_of s ≡ true → followed n s pasts ≡ pasts
followed-over zero s pasts over = refl
followed-over (suc n) s pasts over = rw over refl

pub after-turn : (n k : ℕ) (s : State) → n ≡ k + 1 → is_over_of s ≡ false → after_turns n s ≡ after_turns k (turn_of s)
after-turn n k s e running = ap (λ m. after_turns m s) e ∙ rw (add-one, running) refl

pub after-over : (n : ℕ) (s : State) → is_over_of s ≡ true → after_turns n s ≡ s
after-over zero s over = refl
after-over (suc n) s over = rw over refl

pub length-pasts_after : (s : State) (pasts : List Past) → length (pasts_after s pasts) ≡ length pasts
unfolding pasts_after
length-pasts_after s pasts = length-map-range_with_len (past_after s pasts) 0 (length pasts)
