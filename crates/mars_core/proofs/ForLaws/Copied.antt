-- Each instruction is a copy of the instruction at its origin, and each owner changed its cell last.
use Rattle.std.proofs.Common.{◌≡◌, ℕ, zero, suc, ◌+◌, ◌-◌, ◌*◌, ◌/◌, ◌%◌, ◌<◌, ◌≤◌, ◌==◌, true, false, if◌then◌else◌, Some, None, List, [], ◌∷◌, length, set, refl, ap, sym, ◌∙◌, subst, arith}
use Rattle.std.proofs.lemmas.Bool.{eqb-true, eqb-false, false_from_ne_true, true≢false}
use Rattle.std.proofs.lemmas.List.{length-set, get_or-set_same, get_or-set_other}
use Rattle.std.proofs.lemmas.List.FromFn.{get_or-map-range_with_len}
use Rattle.mars_cell.specs.declared.instruction.Cell.{Cell}
use Rattle.mars_cell.specs.declared.instruction.Field.{Field}
use Rattle.mars_cell.specs.declared.instruction.Field.TheVariants.{ANumber, BNumber}
use Rattle.mars_cell.specs.declared.instruction.Mode.{Mode}
use Rattle.mars_cell.specs.declared.instruction.Mode.TheVariants.{Immediate, Direct, AIndirect, BIndirect, APredecrement, BPredecrement, APostincrement, BPostincrement}
use Rattle.mars_cell.specs.declared.instruction.Modifier.{Modifier}
use Rattle.mars_cell.specs.declared.instruction.Op.{Op}
use Rattle.mars_cell.specs.declared.instruction.Op.TheVariants.{Dat, Mov, Add, Sub, Mul, Div, Mod, Jmp, Jmz, Jmn, Djn, Seq, Sne, Slt, Spl, Nop}
use Rattle.mars_cell.specs.Cells.{empty_cell, with_field}
use Rattle.mars_cell.specs.Parameters.{Parameters}
use Rattle.mars_core.specs.Addresses.{address_after, lowered}
use Rattle.mars_core.specs.Effect.{Pair, divided_pairs, division, effect_of, pairs_of, with_pairs}
use Rattle.mars_core.specs.Laws.{ChangesIn, InstructionsAreCopies, OwnersChangedLast, without_numbers}
use Rattle.mars_core.specs.Operand.{direct_operand, evaluated, indirect_operand, postincremented, predecremented}
use Rattle.mars_core.specs.Past.{changes, comes_from, copies, copy_by, copy_in_turn, followed, past_after, past_at, pasts_after}
use Rattle.mars_core.specs.State.{State, cell_at, is_over_of, queue_of}
use Rattle.mars_core.specs.Turn.{after_effect, after_turns, executed, execution_of, front_of, turn_of}
use Rattle.mars_core.specs.Validity.{IsValid}
use Rattle.mars_core.specs.Writes.{WrittenCore, write_cell, write_field}
use Rattle.mars_core.specs.declared.past.Past.{Past}
use Rattle.mars_core.proofs.CallerLemmas.{shape-turn_of}
use Rattle.mars_core.proofs.Fits.{address_inside}
use Rattle.mars_core.proofs.Pasts.{after-over, length-pasts_after}
use Rattle.mars_core.proofs.Turns.{turn_valid}

-- The opcode, the modifier and the modes of the cell at an address.
abbrev kind_at : List Cell → ℕ → Cell
kind_at core a = without_numbers (cell_at core a)

-- A write of a cell of the same kind changes no kind.
set_kept : (core : List Cell) (i a : ℕ) (cell : Cell) → without_numbers cell ≡ kind_at core i → kind_at (set core i cell) a ≡ kind_at core a
set_kept [] i a cell same = refl
set_kept (c ∷ core) zero zero cell same = same
set_kept (c ∷ core) zero (suc a) cell same = refl
set_kept (c ∷ core) (suc i) zero cell same = refl
set_kept (c ∷ core) (suc i) (suc a) cell same = set_kept core i a cell same

field_kept : (field : Field) (n : ℕ) (cell : Cell) → without_numbers (with_field field n cell) ≡ without_numbers cell
field_kept ANumber n cell = refl
field_kept BNumber n cell = refl

pairs_kept : (f : ℕ → ℕ → ℕ) (a b : Cell) (pairs : List Pair) (target : Cell) → without_numbers (with_pairs f a b pairs target) ≡ without_numbers target
pairs_kept f a b [] target = refl
pairs_kept f a b (pair ∷ pairs) target = pairs_kept f a b pairs _ ∙ field_kept pair.1 _ target

write_kept : (f : ℕ → ℕ) (field : Field) (w : WrittenCore) (i a : ℕ) → kind_at (write_field f field w i).core a ≡ kind_at w.core a
unfolding write_field write_cell
write_kept f field w i a = set_kept w.core i a _ (field_kept field _ (cell_at w.core i))

-- The evaluation of an operand changes no kind, and its copy is of the kind of the cell that it reads.
evaluated_kept : (p : Parameters) (w : WrittenCore) (pc : ℕ) (mode : Mode) (n a : ℕ) → kind_at (evaluated p w pc mode n).written.core a ≡ kind_at w.core a
unfolding evaluated predecremented postincremented
evaluated_kept p w pc Immediate n a = refl
evaluated_kept p w pc Direct n a = refl
evaluated_kept p w pc AIndirect n a = refl
evaluated_kept p w pc BIndirect n a = refl
evaluated_kept p w pc APredecrement n a = write_kept _ ANumber w _ a
evaluated_kept p w pc BPredecrement n a = write_kept _ BNumber w _ a
evaluated_kept p w pc APostincrement n a = write_kept _ ANumber w _ a
evaluated_kept p w pc BPostincrement n a = write_kept _ BNumber w _ a

copy_kept : (p : Parameters) (w : WrittenCore) (pc : ℕ) (mode : Mode) (n : ℕ)
    → let e = evaluated p w pc mode n in without_numbers e.operand.copy ≡ kind_at w.core (address_after p.core_size pc e.operand.read)
unfolding evaluated predecremented postincremented indirect_operand direct_operand
copy_kept p w pc Immediate n = refl
copy_kept p w pc Direct n = refl
copy_kept p w pc AIndirect n = refl
copy_kept p w pc BIndirect n = refl
copy_kept p w pc APredecrement n = write_kept _ ANumber w _ _
copy_kept p w pc BPredecrement n = write_kept _ BNumber w _ _
copy_kept p w pc APostincrement n = refl
copy_kept p w pc BPostincrement n = refl

-- The effect of an instruction that makes no copy changes no kind.
target_kept : (w : WrittenCore) (i a : ℕ) (cell : Cell) → without_numbers cell ≡ kind_at w.core i → kind_at (after_effect w i (Some cell)).core a ≡ kind_at w.core a
unfolding write_cell
target_kept w i a cell same = set_kept w.core i a cell same

pairs_target : (w : WrittenCore) (i x : ℕ) (f : ℕ → ℕ → ℕ) (a b : Cell) (pairs : List Pair)
    → kind_at (after_effect w i (Some (with_pairs f a b pairs (cell_at w.core i)))).core x ≡ kind_at w.core x
pairs_target w i x f a b pairs = target_kept w i x (with_pairs f a b pairs (cell_at w.core i)) (pairs_kept f a b pairs (cell_at w.core i))

division_kept : (w : WrittenCore) (i x m : ℕ) (f : ℕ → ℕ → ℕ) (a b : Cell) (pairs : List Pair) (pc : ℕ)
    → kind_at (after_effect w i (division m f a b pairs (cell_at w.core i) pc).target).core x ≡ kind_at w.core x
unfolding division
division_kept w i x m f a b pairs pc =
    elim (length (divided_pairs a pairs) == 0) as (λ t. kind_at (after_effect w i (if t then None else Some (with_pairs f a b (divided_pairs a pairs) (cell_at w.core i)))).core x ≡ kind_at w.core x) [
      | true ↦ refl
      | false ↦ pairs_target w i x f a b (divided_pairs a pairs)
    ]

effect_kept : (w : WrittenCore) (i x m : ℕ) (op : Op) (modifier : Modifier) (a b : Cell) (pc jump : ℕ) → copies op modifier ≡ false
    → kind_at (after_effect w i (effect_of m op modifier a b (cell_at w.core i) pc jump).target).core x ≡ kind_at w.core x
unfolding effect_of
effect_kept w i x m Dat modifier a b pc jump none = refl
effect_kept w i x m Mov modifier a b pc jump none = rw none (pairs_target w i x (λ u v. u) a b (pairs_of modifier))
effect_kept w i x m Add modifier a b pc jump none = pairs_target w i x (λ u v. (v + u) % m) a b (pairs_of modifier)
effect_kept w i x m Sub modifier a b pc jump none = pairs_target w i x (λ u v. (v + (m - u)) % m) a b (pairs_of modifier)
effect_kept w i x m Mul modifier a b pc jump none = pairs_target w i x (λ u v. (v * u) % m) a b (pairs_of modifier)
effect_kept w i x m Div modifier a b pc jump none = division_kept w i x m (λ u v. v / u) a b (pairs_of modifier) pc
effect_kept w i x m Mod modifier a b pc jump none = division_kept w i x m (λ u v. v % u) a b (pairs_of modifier) pc
effect_kept w i x m Jmp modifier a b pc jump none = refl
effect_kept w i x m Jmz modifier a b pc jump none = refl
effect_kept w i x m Jmn modifier a b pc jump none = refl
effect_kept w i x m Djn modifier a b pc jump none = pairs_target w i x (λ u v. lowered m v) a (cell_at w.core i) (pairs_of modifier)
effect_kept w i x m Seq modifier a b pc jump none = refl
effect_kept w i x m Sne modifier a b pc jump none = refl
effect_kept w i x m Slt modifier a b pc jump none = refl
effect_kept w i x m Spl modifier a b pc jump none = refl
effect_kept w i x m Nop modifier a b pc jump none = refl

-- A copy writes the A-copy.
copied : (m : ℕ) (op : Op) (modifier : Modifier) (a b target : Cell) (pc jump : ℕ) → copies op modifier ≡ true
    → (effect_of m op modifier a b target pc jump).target ≡ Some a
unfolding effect_of
copied m Mov modifier a b target pc jump makes = rw makes refl
copied m Dat modifier a b target pc jump makes = cc
copied m Add modifier a b target pc jump makes = cc
copied m Sub modifier a b target pc jump makes = cc
copied m Mul modifier a b target pc jump makes = cc
copied m Div modifier a b target pc jump makes = cc
copied m Mod modifier a b target pc jump makes = cc
copied m Jmp modifier a b target pc jump makes = cc
copied m Jmz modifier a b target pc jump makes = cc
copied m Jmn modifier a b target pc jump makes = cc
copied m Djn modifier a b target pc jump makes = cc
copied m Seq modifier a b target pc jump makes = cc
copied m Sne modifier a b target pc jump makes = cc
copied m Slt modifier a b target pc jump makes = cc
copied m Spl modifier a b target pc jump makes = cc
copied m Nop modifier a b target pc jump makes = cc

write_length : (f : ℕ → ℕ) (field : Field) (w : WrittenCore) (i : ℕ) → length (write_field f field w i).core ≡ length w.core
unfolding write_field write_cell
write_length f field w i = length-set w.core i _

evaluated_length : (p : Parameters) (w : WrittenCore) (pc : ℕ) (mode : Mode) (n : ℕ) → length (evaluated p w pc mode n).written.core ≡ length w.core
unfolding evaluated predecremented postincremented
evaluated_length p w pc Immediate n = refl
evaluated_length p w pc Direct n = refl
evaluated_length p w pc AIndirect n = refl
evaluated_length p w pc BIndirect n = refl
evaluated_length p w pc APredecrement n = write_length _ ANumber w _
evaluated_length p w pc BPredecrement n = write_length _ BNumber w _
evaluated_length p w pc APostincrement n = write_length _ ANumber w _
evaluated_length p w pc BPostincrement n = write_length _ BNumber w _

-- The kind of each cell after a cell was copied to the address `to`.
copy_made : (w : WrittenCore) (core : List Cell) (from to x : ℕ) (cell : Cell) → to < length w.core
    → ((y : ℕ) → kind_at w.core y ≡ kind_at core y) → without_numbers cell ≡ kind_at core from
    → kind_at (after_effect w to (Some cell)).core x ≡ kind_at core (comes_from (Some (record { from = from; to = to })) x)
unfolding write_cell
copy_made w core from to x cell inside kept kind =
    elim (to == x) as (λ t. (to == x) ≡ t → kind_at (set w.core to cell) x ≡ kind_at core (if t then from else x)) [
      | true ↦ λ e.
          let here : to ≡ x = eqb-true to x e in
          ap without_numbers (ap (λ y. cell_at (set w.core y cell) x) here ∙ get_or-set_same w.core x cell empty_cell (subst (λ y. y < length w.core) here inside)) ∙ kind
      | false ↦ λ e.
          ap without_numbers (get_or-set_other w.core to x cell empty_cell (λ same. eqb-false to x e (sym same))) ∙ kept x
    ] refl

-- After an execution each cell has the kind of the cell from which it comes.
execution_kept : (p : Parameters) (core : List Cell) (pc x : ℕ) → 1 ≤ p.core_size → length core ≡ p.core_size
    → kind_at (execution_of p core pc).written.core x ≡ kind_at core (comes_from (copy_by p core pc) x)
unfolding execution_of copy_by
execution_kept p core pc x positive size =
    let i = cell_at core pc in
    let start : WrittenCore = record { core = core; changes = [] } in
    let a = evaluated p start pc i.a_mode i.a in
    let b = evaluated p a.written pc i.b_mode i.b in
    let from = address_after p.core_size pc a.operand.read in
    let to = address_after p.core_size pc b.operand.write in
    let effect = effect_of p.core_size i.op i.modifier a.operand.copy b.operand.copy (cell_at b.written.core to) pc a.operand.read in
    let kept : (y : ℕ) → kind_at b.written.core y ≡ kind_at core y =
    λ y. evaluated_kept p a.written pc i.b_mode i.b y ∙ evaluated_kept p start pc i.a_mode i.a y in
    let long : length b.written.core ≡ p.core_size =
    evaluated_length p a.written pc i.b_mode i.b ∙ evaluated_length p start pc i.a_mode i.a ∙ size in
    let inside : to < length b.written.core = rw long (address_inside p.core_size pc b.operand.write positive) in
    elim (copies i.op i.modifier) as (λ t. copies i.op i.modifier ≡ t
    → kind_at (after_effect b.written to effect.target).core x ≡ kind_at core (comes_from (if t then Some (record { from = from; to = to }) else None) x)) [
      | true ↦ λ e.
          ap (λ target. kind_at (after_effect b.written to target).core x) (copied p.core_size i.op i.modifier a.operand.copy b.operand.copy (cell_at b.written.core to) pc a.operand.read e)
          ∙ copy_made b.written core from to x a.operand.copy inside kept (copy_kept p start pc i.a_mode i.a)
      | false ↦ λ e.
          effect_kept b.written to x p.core_size i.op i.modifier a.operand.copy b.operand.copy pc a.operand.read e ∙ kept x
    ] refl

-- A copy comes from a cell of the core.
from_inside : (p : Parameters) (core : List Cell) (pc x : ℕ) → 1 ≤ p.core_size → x < p.core_size → comes_from (copy_by p core pc) x < p.core_size
unfolding copy_by
from_inside p core pc x positive inside =
    let i = cell_at core pc in
    let a = evaluated p (record { core = core; changes = [] }) pc i.a_mode i.a in
    let b = evaluated p a.written pc i.b_mode i.b in
    let from = address_after p.core_size pc a.operand.read in
    let to = address_after p.core_size pc b.operand.write in
    elim (copies i.op i.modifier) as (λ t. comes_from (if t then Some (record { from = from; to = to }) else None) x < p.core_size) [
      | true ↦
          elim (to == x) as (λ t. (if t then from else x) < p.core_size) [
            | true ↦ address_inside p.core_size pc a.operand.read positive
            | false ↦ inside
          ]
      | false ↦ inside
    ]

turn_kept : (s : State) (x : ℕ) → IsValid s → kind_at (turn_of s).core x ≡ kind_at s.core (comes_from (copy_in_turn s) x)
unfolding turn_of executed
turn_kept s x v = execution_kept s.params s.core (front_of (queue_of s.queues s.next)) x v.params.core_least v.core.size

past_is : (s : State) (pasts : List Past) (a : ℕ) → a < length pasts → past_at (pasts_after s pasts) a ≡ past_after s pasts a
unfolding pasts_after
past_is s pasts a inside = get_or-map-range_with_len (past_after s pasts) 0 (length pasts) a a _ inside (omega arith)

-- If the origin of each cell determines its kind by the function `kind`, it does so after any turns.
kinds_followed : (n : ℕ) (kind : ℕ → Cell) (s : State) (pasts : List Past) → IsValid s → length pasts ≡ s.params.core_size
    → ((a : ℕ) → a < s.params.core_size → kind_at s.core a ≡ kind (past_at pasts a).origin)
    → (a : ℕ) → a < s.params.core_size → kind_at (after_turns n s).core a ≡ kind (past_at (followed n s pasts) a).origin
kinds_followed zero kind s pasts v size are a inside = are a inside
kinds_followed (suc n) kind s pasts v size are a inside =
    elim (is_over_of s) as (λ t. is_over_of s ≡ t → kind_at (if t then s else after_turns n (turn_of s)).core a
    ≡ kind (past_at (if t then pasts else followed n (turn_of s) (pasts_after s pasts)) a).origin) [
      | true ↦ λ over. are a inside
      | false ↦ λ running.
          let same : (turn_of s).params ≡ s.params = (shape-turn_of s).params in
          let core : (turn_of s).params.core_size ≡ s.params.core_size = ap (λ (p : Parameters). p.core_size) same in
          let next : (b : ℕ) → b < (turn_of s).params.core_size → kind_at (turn_of s).core b ≡ kind (past_at (pasts_after s pasts) b).origin =
          λ b below.
          let here : b < s.params.core_size = subst (λ m. b < m) core below in
          turn_kept s b v
          ∙ are (comes_from (copy_in_turn s) b) (from_inside s.params s.core (front_of (queue_of s.queues s.next)) b v.params.core_least here)
          ∙ ap (λ (p : Past). kind p.origin) (sym (past_is s pasts b (rw size here))) in
          kinds_followed n kind (turn_of s) (pasts_after s pasts) (turn_valid s v running) (length-pasts_after s pasts ∙ size ∙ sym core) next a (rw core inside)
    ] refl

pub instructions_are_copies : InstructionsAreCopies
instructions_are_copies n address s pasts v size own inside =
    kinds_followed n (kind_at s.core) s pasts v size (λ a below. ap (kind_at s.core) (sym (own a below))) address inside

-- Turn `j` after the next turn is turn `j + 1`.
later : (s : State) (j : ℕ) → is_over_of s ≡ false → after_turns (suc j) s ≡ after_turns j (turn_of s)
later s j running = rw running refl

changes_up : (s : State) (n a j : ℕ) → is_over_of s ≡ false → ChangesIn (turn_of s) n a j → ChangesIn s (suc n) a (suc j)
changes_up s n a j running c = record {
  below = let below = c.below in omega arith;
  running = ap is_over_of (later s j running) ∙ c.running;
  changes_it = ap (λ (t : State). changes t a) (later s j running) ∙ c.changes_it;
}

changes_down : (s : State) (n a j : ℕ) → is_over_of s ≡ false → ChangesIn s (suc n) a (suc j) → ChangesIn (turn_of s) n a j
changes_down s n a j running c = record {
  below = let below = c.below in omega arith;
  running = ap is_over_of (sym (later s j running)) ∙ c.running;
  changes_it = ap (λ (t : State). changes t a) (sym (later s j running)) ∙ c.changes_it;
}

-- The past has this owner and this turn.
abbrev Noted : Past → ℕ → ℕ → Type 0
Noted past owner turn = (past.owner ≡ owner) × (past.turn ≡ turn)

owned : (s : State) (pasts : List Past) (a : ℕ) → a < length pasts → changes s a ≡ true → Noted (past_at (pasts_after s pasts) a) s.next (s.turns + 1)
owned s pasts a inside changed = rw (past_is s pasts a inside, changed) (refl, refl)

unowned : (s : State) (pasts : List Past) (a : ℕ) → a < length pasts → changes s a ≡ false
    → Noted (past_at (pasts_after s pasts) a) (past_at pasts a).owner (past_at pasts a).turn
unowned s pasts a inside changed = rw (past_is s pasts a inside, changed) (refl, refl)

-- No turn changes a battle that is over.
over_always : (s : State) (n a k : ℕ) → is_over_of s ≡ true → ChangesIn s n a k → ⊥
over_always s n a zero over c = true≢false (sym over ∙ c.running)
over_always s n a (suc k) over c = true≢false (sym over ∙ ap is_over_of (sym (after-over (suc k) s over)) ∙ c.running)

-- If no turn changes a cell, its owner and its turn stay the same.
unchanged : (n a : ℕ) (s : State) (pasts : List Past) → a < length pasts → ((k : ℕ) → ChangesIn s n a k → ⊥)
    → Noted (past_at (followed n s pasts) a) (past_at pasts a).owner (past_at pasts a).turn
unchanged zero a s pasts inside none = (refl, refl)
unchanged (suc n) a s pasts inside none =
    elim (is_over_of s) as (λ t. is_over_of s ≡ t → Noted (past_at (if t then pasts else followed n (turn_of s) (pasts_after s pasts)) a) (past_at pasts a).owner (past_at pasts a).turn) [
      | true ↦ λ over. (refl, refl)
      | false ↦ λ running.
          let first : changes s a ≡ false =
          false_from_ne_true (changes s a) (λ e. none 0 (record { below = omega arith; running = running; changes_it = e })) in
          let now = unowned s pasts a inside first in
          let then_ = unchanged n a (turn_of s) (pasts_after s pasts) (rw length-pasts_after inside) (λ k c. none (suc k) (changes_up s n a k running c)) in
          (then_.0 ∙ now.0, then_.1 ∙ now.1)
    ] refl

-- After the last turn that changes a cell, its owner and its turn are those of this turn.
changed_last : (n a k : ℕ) (s : State) (pasts : List Past) → a < length pasts → ChangesIn s n a k → ((j : ℕ) → k < j → ChangesIn s n a j → ⊥)
    → Noted (past_at (followed n s pasts) a) (after_turns k s).next ((after_turns k s).turns + 1)
changed_last zero a k s pasts inside c last = let below = c.below in absurd (omega arith)
changed_last (suc n) a zero s pasts inside c last =
    let running = c.running in
    let now = owned s pasts a inside c.changes_it in
    let then_ = unchanged n a (turn_of s) (pasts_after s pasts) (rw length-pasts_after inside) (λ k d. last (suc k) (omega arith) (changes_up s n a k running d)) in
    rw running (then_.0 ∙ now.0, then_.1 ∙ now.1)
changed_last (suc n) a (suc k) s pasts inside c last =
    elim (is_over_of s) as (λ t. is_over_of s ≡ t → Noted (past_at (followed (suc n) s pasts) a) (after_turns (suc k) s).next ((after_turns (suc k) s).turns + 1)) [
      | true ↦ λ over. absurd (over_always s (suc n) a (suc k) over c)
      | false ↦ λ running.
          let then_ = changed_last n a k (turn_of s) (pasts_after s pasts) (rw length-pasts_after inside) (changes_down s n a k running c)
          (λ j less d. last (suc j) (omega arith) (changes_up s n a j running d)) in
          rw running then_
    ] refl

pub owners_changed_last : OwnersChangedLast
owners_changed_last n address s pasts inside = (λ k c last. changed_last n address k s pasts inside c last, unchanged n address s pasts inside)
