-- Turns that were executed, and the conditions that they meet.
use Rattle.std.proofs.Common.{◌≡◌, ℕ, zero, suc, ◌<◌, ◌≤◌, ◌==◌, ◌+◌, ◌-◌, Bool, true, false, not, ◌&&◌, ◌||◌, if◌then◌else◌, List, [], ◌∷◌, ◌++◌, All, get_or, length, set, take, add-one, append_assoc, append-nil, length-append, inl, inr, ◌⊎◌, None, Some, refl, subst, sym, ap, ◌∙◌, arith}
use Rattle.std.specs.Bool.{then_some}
use Rattle.std.specs.List.{list_all, list_any, range_with_len}
use Rattle.std.proofs.Math.Seq.{take-nil}
use Rattle.std.proofs.lemmas.Bool.{and_from, and_parts, and_right, eq-eqb, eqb-true, eqb-false, ne_eqb}
use Rattle.std.proofs.lemmas.List.Folds.{Any-from_list_any, list_any-append, list_any_at, list_any_more}
use Rattle.std.proofs.lemmas.List.FromFn.{get_or-range_with_len, length-range_with_len}
use Rattle.mars_cell.specs.Cells.{empty_cell}
use Rattle.mars_cell.specs.declared.instruction.Cell.{Cell}
use Rattle.mars_cell.specs.Parameters.{Parameters}
use Rattle.mars_core.specs.Code.Searches.{AreUsed, IsSeen}
use Rattle.mars_core.specs.Effect.{are_equal_cells}
use Rattle.mars_core.specs.Past.{changes, followed, pasts_after}
use Rattle.mars_core.specs.Record.{restored}
use Rattle.mars_core.specs.Search.{filled, found_in, found_turn, holds, meets, on, one_meets, uses}
use Rattle.mars_core.specs.Start.{is_in}
use Rattle.mars_core.specs.State.{State, cell_at, is_over_of}
use Rattle.mars_core.specs.Turn.{after_turns, turn_of, turn_record}
use Rattle.mars_core.specs.declared.machine.writes.CellChange.{CellChange}
use Rattle.mars_core.specs.declared.record.Atom.{Atom}
use Rattle.mars_core.specs.declared.past.Past.{Past}
use Rattle.mars_core.specs.declared.search.Condition.{Condition}
use Rattle.mars_core.specs.declared.search.Found.{Found}
use Rattle.mars_core.specs.declared.search.Way.{Way}
use Rattle.mars_core.specs.Validity.{IsValid}
use Rattle.mars_core.proofs.CallerLemmas.{shape-turn_of}
use Rattle.mars_core.proofs.Inside.{AreInside}
use Rattle.mars_core.proofs.Pasts.{after-over, after-turn, differs, followed-over, followed-turn, length-pasts_after, undone, writes_inside, written_if_differs}
use Rattle.mars_core.proofs.Turns.{same_eq}

-- Undoing the writes gives the core before the turn.
pub seen_before : (s : State) (core : List Cell) (atom : Atom) → IsSeen s core atom → restored atom.cells.items core ≡ s.core
seen_before s core atom seen = rw (seen.atom_is, seen.core_is) (undone s)

-- Two tests are equal if each succeeds when the other does.
alike : (b c : Bool) → (b ≡ true → c ≡ true) → (c ≡ true → b ≡ true) → b ≡ c
alike true c there back = sym (there refl)
alike false true there back = back refl
alike false false there back = refl

-- An address below `m` that is used passes the test exactly if one of the addresses in `used` passes it.
pub any_used : (m : ℕ) (used : List ℕ) (is_used test : ℕ → Bool) → All (λ a. a < m) used → ((a : ℕ) → a < m → is_in used a ≡ is_used a)
    → list_any (λ a. is_used a && test a) (range_with_len 0 m) ≡ list_any test used
any_used m used is_used test inside are =
    alike _ _
    (λ any.
    let found = Any-from_list_any (λ a. is_used a && test a) (range_with_len 0 m) any in
    let below : found.0 < m = subst (λ n. found.0 < n) (length-range_with_len 0 m) found.2 in
    let at : found.1 ≡ found.0 = sym found.3 ∙ get_or-range_with_len 0 m found.0 found.1 below ∙ omega arith in
    let both = and_parts (is_used found.0) (test found.0) (subst (λ a. (is_used a && test a) ≡ true) at found.4) in
    let place = Any-from_list_any (λ b. found.0 == b) used (are found.0 below ∙ both.0) in
    let here : found.0 ≡ place.1 = eqb-true found.0 place.1 place.4 in
    list_any_at test used place.0 place.1 place.2 (ap test (place.3 ∙ sym here) ∙ both.1))
    (λ any.
    let found = Any-from_list_any test used any in
    let a = found.1 in
    let below : a < m = subst (λ x. x < m) found.3 (inside found.0 a found.2) in
    let used_is = sym (are a below) ∙ list_any_at (λ b. a == b) used found.0 a found.2 (ap (λ b. a == b) found.3 ∙ eq-eqb a a refl) in
    let at : get_or (range_with_len 0 m) a 0 ≡ a = get_or-range_with_len 0 m a 0 below ∙ omega arith in
    list_any_at (λ x. is_used x && test x) (range_with_len 0 m) a 0 (rw length-range_with_len below)
    (ap (λ x. is_used x && test x) at ∙ and_from (is_used a) (test a) used_is found.4))

-- A turn meets the conditions on a way by one of the cells that it uses in this way.
pub met_by : (way : Way) (conditions : List Condition) (s : State) (pasts : List Past) (used : List ℕ)
    → All (λ a. a < s.params.core_size) used → AreUsed way s used
    → one_meets way conditions s pasts ≡ list_any (λ a. list_all (holds s pasts a) (on way conditions)) used
met_by way conditions s pasts used inside are =
    any_used s.params.core_size used (uses way s) (λ a. list_all (holds s pasts a) (on way conditions)) inside are

abbrev is_written : List CellChange → ℕ → Bool
is_written writes a = list_any (λ (write : CellChange). write.address == a) writes

module _ (writes : List CellChange) (core : List Cell) (i : ℕ) (w : CellChange) (inside : i < length writes) (is : get_or writes i w ≡ w) where
  more_written : (a : ℕ) → is_written (take (i + 1) writes) a ≡ (is_written (take i writes) a || (w.address == a))
  more_written a =
      list_any_more (λ (write : CellChange). write.address == a) writes i w inside
      ∙ ap (λ (x : CellChange). is_written (take i writes) a || (x.address == a)) is

  -- The next write changed its cell.
  pub one_changed : (a : ℕ) (addresses : List ℕ) → differs writes core w.address ≡ true
      → is_in addresses a ≡ (is_written (take i writes) a && differs writes core a)
      → is_in (addresses ++ w.address ∷ []) a ≡ (is_written (take (i + 1) writes) a && differs writes core a)
  one_changed a addresses differ so_far =
      elim (w.address == a) as (λ b. (w.address == a) ≡ b → is_in (addresses ++ w.address ∷ []) a ≡ (is_written (take (i + 1) writes) a && differs writes core a)) [
        | true ↦ λ e.
            let here : w.address ≡ a = eqb-true w.address a e in
            let there : differs writes core a ≡ true = ap (differs writes core) (sym here) ∙ differ in
            rw (more_written a, e, there, list_any-append (λ y. a == y) addresses (w.address ∷ []), here, same_eq a) (grind arith)
        | false ↦ λ e.
            let other : (a == w.address) ≡ false = ne_eqb a w.address (λ x. eqb-false w.address a e (sym x)) in
            rw (more_written a, e, list_any-append (λ y. a == y) addresses (w.address ∷ []), other, so_far) (grind arith)
      ] refl

  -- The next write left its cell as it was.
  pub none_changed : (a : ℕ) (addresses : List ℕ) → differs writes core w.address ≡ false
      → is_in addresses a ≡ (is_written (take i writes) a && differs writes core a)
      → is_in addresses a ≡ (is_written (take (i + 1) writes) a && differs writes core a)
  none_changed a addresses differ so_far =
      elim (w.address == a) as (λ b. (w.address == a) ≡ b → is_in addresses a ≡ (is_written (take (i + 1) writes) a && differs writes core a)) [
        | true ↦ λ e.
            let there : differs writes core a ≡ false = ap (differs writes core) (sym (eqb-true w.address a e)) ∙ differ in
            rw (so_far, there) (grind arith)
        | false ↦ λ e. rw (more_written a, e, so_far) (grind arith)
      ] refl

-- All cells that differ were written.
pub all_changed : (writes : List CellChange) (core : List Cell) (a : ℕ) → a < length core → (is_written writes a && differs writes core a) ≡ differs writes core a
all_changed writes core a inside =
    elim (differs writes core a) as (λ b. differs writes core a ≡ b → (is_written writes a && b) ≡ b) [
      | true ↦ λ e.
          let d : CellChange = record { address = 0; before = empty_cell; after = empty_cell } in
          let found = written_if_differs writes core a d inside e in
          and_from _ true (list_any_at (λ (write : CellChange). write.address == a) writes found.0 d found.1 (eq-eqb _ a found.2)) refl
      | false ↦ λ e. and_right _ false refl
    ] refl

-- The turn changes the cells that differ from the cells before its writes.
pub differs_changes : (s : State) (core : List Cell) (atom : Atom) (a : ℕ) → IsSeen s core atom → differs atom.cells.items core a ≡ changes s a
differs_changes s core atom a seen =
    ap (λ c. not (are_equal_cells (cell_at c a) (cell_at core a))) (seen_before s core atom seen)
    ∙ ap (λ c. not (are_equal_cells (cell_at s.core a) (cell_at c a))) seen.core_is

-- The code has seen the turn of the state `s` if it has the record of the turn and the core of the next state `made`.
pub turn_seen : (s made : State) (core : List Cell) (atom : Atom) → made ≡ turn_of s → atom ≡ turn_record s → core ≡ made.core
    → IsValid made → IsSeen s core atom
turn_seen s made core atom after recorded core_is valid =
    let params : made.params ≡ s.params = ap (λ (t : State). t.params) after ∙ (shape-turn_of s).params in
    record {
      core_is = core_is ∙ ap (λ (t : State). t.core) after;
      atom_is = recorded;
      size = ap length core_is ∙ valid.core.size ∙ ap (λ (p : Parameters). p.core_size) params;
    }

-- The writes of the turn are in the core.
pub seen_inside : (s : State) (core : List Cell) (atom : Atom) → IsSeen s core atom → 1 ≤ length core → AreInside (length core) atom.cells.items
seen_inside s core atom seen positive =
    rw (seen.size, seen.atom_is) (writes_inside s (rw (← seen.size) positive))

-- From the state `first` on, `made` of `turns` turns are executed, of which `count` meet the conditions.
pub record IsFollowed (conditions : List Condition) (turns : ℕ) (first : State) (pasts_first : List Past) (rows_first : List Found)
    (made : ℕ) (s : State) (pasts : List Past) (rows : List Found) (count : ℕ) : Type 0 where
  pub size : length pasts ≡ s.params.core_size
  pub few : count ≤ made
  pub pasts_are : followed turns first pasts_first ≡ followed (turns - made) s pasts
  pub battle_is : after_turns turns first ≡ after_turns (turns - made) s
  -- The turns that are found so far; those that are found in the turns that are left come after them.
  pub found : List Found
  pub all_are : found_in conditions turns first pasts_first ≡ found ++ found_in conditions (turns - made) s pasts
  pub count_is : count ≡ length found
  pub rows_are : rows ≡ filled found rows_first

pub filled-none : {X : Type 0} → (rows : List X) → filled [] rows ≡ rows
filled-none rows = rw (take-nil (length rows)) refl

pub filled-push : {X : Type 0} → (found : List X) (n : X) (rows : List X) → set (filled found rows) (length found) n ≡ filled (found ++ n ∷ []) rows
filled-push [] n [] = refl
filled-push [] n (row ∷ rows) = rw (take-nil (length rows)) refl
filled-push (m ∷ found) n [] = refl
filled-push (m ∷ found) n (row ∷ rows) = ap (λ l. m ∷ l) (filled-push found n rows)

found-turn : (conditions : List Condition) (n k : ℕ) (s : State) (pasts : List Past) → n ≡ k + 1 → is_over_of s ≡ false
    → found_in conditions n s pasts ≡ (if meets conditions s pasts then found_turn s pasts ∷ [] else []) ++ found_in conditions k (turn_of s) (pasts_after s pasts)
found-turn conditions n k s pasts e running = ap (λ m. found_in conditions m s pasts) e ∙ rw (add-one, running) refl

found-over : (conditions : List Condition) (n : ℕ) (s : State) (pasts : List Past) → is_over_of s ≡ true → found_in conditions n s pasts ≡ []
found-over conditions zero s pasts over = refl
found-over conditions (suc n) s pasts over = rw over refl

module _ (conditions : List Condition) (turns : ℕ) (first : State) (pasts_first : List Past) (rows_first : List Found) where
  pub followed-none : length pasts_first ≡ first.params.core_size → IsFollowed conditions turns first pasts_first rows_first 0 first pasts_first rows_first 0
  followed-none size = record {
    size = size;
    few = omega arith;
    pasts_are = ap (λ n. followed n first pasts_first) (omega arith);
    battle_is = ap (λ n. after_turns n first) (omega arith);
    found = [];
    all_are = ap (λ n. found_in conditions n first pasts_first) (omega arith);
    count_is = refl;
    rows_are = sym (filled-none rows_first);
  }

  module _ (made : ℕ) (s : State) (pasts : List Past) (rows : List Found) (count : ℕ)
      (f : IsFollowed conditions turns first pasts_first rows_first made s pasts rows count) where
    -- All turns are executed, or the battle is over: no more turns are found.
    pub followed-all : (turns - made ≡ 0) ⊎ (is_over_of s ≡ true)
        → (found_in conditions turns first pasts_first ≡ f.found) × (followed turns first pasts_first ≡ pasts) × (after_turns turns first ≡ s)
    followed-all (inl none) = (
      f.all_are ∙ rw none (append-nil f.found),
      f.pasts_are ∙ rw none refl,
      f.battle_is ∙ rw none refl,
    )
    followed-all (inr over) = (
      f.all_are ∙ rw (found-over conditions (turns - made) s pasts over) (append-nil f.found),
      f.pasts_are ∙ followed-over (turns - made) s pasts over,
      f.battle_is ∙ after-over (turns - made) s over,
    )

    module _ (t : State) (pasts' : List Past) (below : made < turns) (running : is_over_of s ≡ false)
        (t_is : t ≡ turn_of s) (pasts_is : pasts' ≡ pasts_after s pasts) where
      next : (new : List Found) (rows' : List Found) (count' : ℕ) → (if meets conditions s pasts then found_turn s pasts ∷ [] else []) ≡ new
          → count' ≡ count + length new → length new ≤ 1 → rows' ≡ filled (f.found ++ new) rows_first
          → IsFollowed conditions turns first pasts_first rows_first (made + 1) t pasts' rows' count'
      next new rows' count' new_is count_is one rows_are =
          let k = turns - (made + 1) in
          let left : turns - made ≡ k + 1 = omega arith in
          record {
            size = rw (pasts_is, t_is) (length-pasts_after s pasts ∙ f.size ∙ ap (λ (p : Parameters). p.core_size) (sym (shape-turn_of s).params));
            few = omega (arith, f.few);
            pasts_are = f.pasts_are ∙ followed-turn _ k s pasts left running ∙ rw (pasts_is, t_is) refl;
            battle_is = f.battle_is ∙ after-turn _ k s left running ∙ rw t_is refl;
            found = f.found ++ new;
            all_are =
                f.all_are ∙ ap (λ l. f.found ++ l) (found-turn conditions _ k s pasts left running ∙ rw (new_is, pasts_is, t_is) refl)
                ∙ sym (append_assoc f.found new _);
            count_is = omega (arith, count_is, f.count_is, length-append f.found new);
            rows_are = rows_are;
          }

      -- The turn meets the conditions.
      pub followed-found : (row : Found) (rows' : List Found) → meets conditions s pasts ≡ true → row ≡ found_turn s pasts → rows' ≡ set rows count row
          → IsFollowed conditions turns first pasts_first rows_first (made + 1) t pasts' rows' (count + 1)
      followed-found row rows' met row_is rows_is =
          next (found_turn s pasts ∷ []) rows' (count + 1) (rw met refl) refl (omega arith)
          (rows_is ∙ rw (f.rows_are, f.count_is, row_is) (filled-push f.found (found_turn s pasts) rows_first))

      pub followed-missed : meets conditions s pasts ≡ false → IsFollowed conditions turns first pasts_first rows_first (made + 1) t pasts' rows count
      followed-missed missed =
          next [] rows count (rw missed refl) (omega arith) (omega arith) (f.rows_are ∙ ap (λ l. filled l rows_first) (sym (append-nil f.found)))

-- What the code returns of a turn that meets the conditions or not.
pub given_if : {X : Type 0} → (met : Bool) (turn : X) → then_some met turn ≡ (if met then Some turn else None)
given_if true turn = refl
given_if false turn = refl

pub given_some : {X : Type 0} → (met : Bool) (turn row : X) → (if met then Some turn else None) ≡ Some row → (met ≡ true) × (row ≡ turn)
given_some true turn row e = (refl, cc e)
given_some false turn row e = cc e

pub given_none : {X : Type 0} → (met : Bool) (turn : X) → ((row : X) → (if met then Some turn else None) ≡ Some row → ⊥) → met ≡ false
given_none true turn none = absurd (none turn refl)
given_none false turn none = refl
