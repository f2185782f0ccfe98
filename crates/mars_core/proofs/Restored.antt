-- Reverting a record gives the state that the record leads from.
use Rattle.std.proofs.Common.{◌≡◌, ◌≢◌, ℕ, zero, suc, ◌+◌, ◌-◌, ◌<◌, List, [], ◌∷◌, ◌++◌, length, get_or, set, take, drop, inl, inr, refl, ap, ◌∙◌, arith, Bool, true, false, cond, Option, Some, None}
use Rattle.std.specs.Prelude.{◌==◌, not, insert, remove}
use Rattle.std.proofs.lemmas.List.{length-append, get_or-set_same, take-append-le, take_all}
use Rattle.std.proofs.lemmas.Bool.Decides.{nat_tests}
use Rattle.mars_cell.specs.declared.instruction.Cell.{Cell}
use Rattle.mars_cell.specs.declared.instruction.Field.{Field}
use Rattle.mars_cell.specs.declared.instruction.Mode.{Mode}
use Rattle.mars_cell.specs.declared.instruction.Mode.TheVariants.{Immediate, Direct, AIndirect, BIndirect, APredecrement, BPredecrement, APostincrement, BPostincrement}
use Rattle.mars_cell.specs.Cells.{empty_cell}
use Rattle.mars_cell.specs.Parameters.{Parameters}
use Rattle.mars_core.specs.State.{State, cell_at, queue_of, is_empty, advanced, moved_clock, live_from, clock_of, is_over_of}
use Rattle.mars_core.specs.Addresses.{address_after}
use Rattle.mars_core.specs.Writes.{WrittenCore, write_cell, write_field}
use Rattle.mars_core.specs.Operand.{predecremented, postincremented, evaluated}
use Rattle.mars_core.specs.Effect.{effect_of}
use Rattle.mars_core.specs.Turn.{after_effect, execution_of, front_of, accepted, queue_after, with_death, executed, turn_of, turn_record}
use Rattle.mars_core.specs.Code.Operands.{a_evaluated, b_evaluated, unwritten}
use Rattle.mars_core.specs.Validity.{IsValid}
use Rattle.mars_core.specs.Record.{restored, without_last, cycles_of, reverted}
use Rattle.mars_core.specs.declared.machine.writes.CellChange.{CellChange}
use Rattle.mars_core.specs.declared.deaths.Death.{Death}
use Rattle.mars_core.specs.declared.machine.clock.Clock.{Clock}
use Rattle.mars_core.specs.Edit.{left_of, killed, edit_fault, edited, edit_record, IsProcess, CanSpawn}
use Rattle.mars_core.specs.Leads.{Leads}
use Rattle.mars_core.specs.declared.record.Atom.{Atom}
use Rattle.mars_core.specs.declared.record.Work.TheVariants as work
use Rattle.mars_core.specs.declared.battle.edit.Edit.{Edit}
use Rattle.mars_core.specs.declared.battle.edit.Edit.TheVariants as edit
use Rattle.mars_core.proofs.Accepted.{accepted_move, accepted_kill, accepted_spawn}
use Rattle.mars_core.proofs.Turns.{running, same_eq}

pub restored-append : (xs ys : List CellChange) (core : List Cell) → restored (xs ++ ys) core ≡ restored xs (restored ys core)
restored-append [] ys core = refl
restored-append (x ∷ xs) ys core = ap (λ (c : List Cell). set c x.address x.before) (restored-append xs ys core)

set_back : {A : Type 0} (xs : List A) (i : ℕ) (x d : A) → set (set xs i x) i (get_or xs i d) ≡ xs
set_back [] i x d = refl
set_back (y ∷ xs) zero x d = refl
set_back (y ∷ xs) (suc i) x d = ap (λ l. y ∷ l) (set_back xs i x d)

-- The core that results from undoing all writes.
abbrev origin : WrittenCore → List Cell
origin written = restored written.changes written.core

origin-written : (written : WrittenCore) (a : ℕ) (cell : Cell) → origin (write_cell written a cell) ≡ origin written
unfolding write_cell
origin-written written a cell =
    restored-append written.changes _ _ ∙ ap (restored written.changes) (set_back written.core a cell empty_cell)

origin-changed : (f : ℕ → ℕ) (field : Field) (written : WrittenCore) (a : ℕ) → origin (write_field f field written a) ≡ origin written
unfolding write_field
origin-changed f field written a = origin-written written a _

origin-predecremented : (p : Parameters) (field : Field) (written : WrittenCore) (pc n : ℕ) → origin (predecremented p field written pc n).written ≡ origin written
unfolding predecremented
origin-predecremented p field written pc n = origin-changed _ field written _

origin-postincremented : (p : Parameters) (field : Field) (written : WrittenCore) (pc n : ℕ) → origin (postincremented p field written pc n).written ≡ origin written
unfolding postincremented
origin-postincremented p field written pc n = origin-changed _ field written _

origin-evaluated : (p : Parameters) (written : WrittenCore) (pc : ℕ) (mode : Mode) (n : ℕ) → origin (evaluated p written pc mode n).written ≡ origin written
unfolding evaluated
origin-evaluated p written pc Immediate n = refl
origin-evaluated p written pc Direct n = refl
origin-evaluated p written pc AIndirect n = refl
origin-evaluated p written pc BIndirect n = refl
origin-evaluated p written pc APredecrement n = origin-predecremented p _ written pc n
origin-evaluated p written pc BPredecrement n = origin-predecremented p _ written pc n
origin-evaluated p written pc APostincrement n = origin-postincremented p _ written pc n
origin-evaluated p written pc BPostincrement n = origin-postincremented p _ written pc n

-- Undoing the writes of both operands gives the core before them.
pub origin-operands : (p : Parameters) (core : List Cell) (pc : ℕ) (i : Cell) → origin (b_evaluated p core pc i).written ≡ core
origin-operands p core pc i =
    origin-evaluated p (a_evaluated p core pc i).written pc i.b_mode i.b ∙ origin-evaluated p (unwritten core) pc i.a_mode i.a

origin-after_effect : (written : WrittenCore) (a : ℕ) (target : Option Cell) → origin (after_effect written a target) ≡ origin written
origin-after_effect written a None = refl
origin-after_effect written a (Some cell) = origin-written written a cell

-- Undoing the writes of an execution gives the core before it.
pub origin-execution : (p : Parameters) (core : List Cell) (pc : ℕ) → origin (execution_of p core pc).written ≡ core
unfolding execution_of
origin-execution p core pc =
    let instruction = cell_at core pc in
    let start : WrittenCore = record { core = core; changes = [] } in
    let a = evaluated p start pc instruction.a_mode instruction.a in
    let b = evaluated p a.written pc instruction.b_mode instruction.b in
    let address = address_after p.core_size pc b.operand.write in
    let effect = effect_of p.core_size instruction.op instruction.modifier a.operand.copy b.operand.copy (cell_at b.written.core address) pc a.operand.read in
    origin-after_effect b.written address effect.target ∙ origin-operands p core pc instruction

without_last-append : {X : Type 0} (xs ys : List X) → without_last (length ys) (xs ++ ys) ≡ xs
without_last-append xs ys =
    ap (λ n. take n (xs ++ ys)) (omega (arith, length-append xs ys)) ∙ take-append-le (length xs) xs ys (omega arith) ∙ take_all (length xs) xs (omega arith)

front_back : (q rest : List ℕ) → q ≢ [] → front_of q ∷ without_last (length rest) (drop 1 q ++ rest) ≡ q
front_back [] rest h = absurd (h refl)
front_back (x ∷ q) rest h = ap (λ (l : List ℕ). x ∷ l) (without_last-append q rest)

-- Replacing a queue and then putting the previous queue back changes nothing.
requeued_back : (qs : List (List ℕ)) (w : ℕ) (q r : List ℕ) → r ≡ queue_of qs w → set (set qs w q) w r ≡ qs
requeued_back qs w q r e = ap (set (set qs w q) w) e ∙ set_back qs w q []

pub queue_set : (qs : List (List ℕ)) (w : ℕ) (q : List ℕ) → w < length qs → queue_of (set qs w q) w ≡ q
queue_set qs w q h = get_or-set_same qs w q [] h

insert_back : (q : List ℕ) (i : ℕ) → i < length q → insert (remove q i) i (get_or q i 0) ≡ q
insert_back [] i h = absurd (omega arith)
insert_back (x ∷ q) zero h = refl
insert_back (x ∷ q) (suc i) h = ap (λ (l : List ℕ). x ∷ l) (insert_back q i (omega arith))

deaths_back : (died : Bool) (w t : ℕ) (ds : List Death) → cond died (without_last 1 (with_death died w t ds)) (with_death died w t ds) ≡ ds
deaths_back true w t ds = without_last-append ds (record { warrior = w; turns = t } ∷ [])
deaths_back false w t ds = refl

cycle_back : (clock : Clock) (o z : Option ℕ) → let c = (moved_clock clock o z).cycle in c - cycles_of (not (c == clock.cycle)) ≡ clock.cycle
cycle_back clock (Some k) z = grind (arith, nat_tests)
cycle_back clock None (Some k) = grind (arith, nat_tests)
cycle_back clock None None = grind (arith, nat_tests)

clock_back : (qs : List (List ℕ)) (clock : Clock) (i : ℕ) → let c = (advanced qs clock i).cycle in c - cycles_of (not (c == clock.cycle)) ≡ clock.cycle
unfolding advanced
clock_back qs clock i = cycle_back clock (live_from qs i) (live_from qs 0)

-- The record of a kill that left the warrior `w` with the queue `q`.
abbrev pub killing : State → ℕ → ℕ → List ℕ → Atom
killing s w i q = record {
  work = work.KillProcess w i (get_or (queue_of s.queues w) i 0);
  cells = record { items = [] };
  queued = record { items = [] };
  next_before = s.next;
  next_after = (left_of s w q).next;
  cycle_added = not ((left_of s w q).cycle == s.cycle);
  died = is_empty q;
}

module _ (s : State) (v : IsValid s) where
  turn_back : is_over_of s ≡ false → reverted (turn_record s) (turn_of s) ≡ s
  unfolding reverted turn_of turn_record executed
  turn_back over =
      let run = running s.params.cycles s.cycle s.queues v.some over in
      let q = queue_of s.queues s.next in
      let rest = accepted s.params s.core q in
      let after = queue_after s.params s.core q in
      let core_is = origin-execution s.params s.core (front_of q) in
      let queue_is = queue_set s.queues s.next after v.clock.next in
      let queues_is =
      requeued_back s.queues s.next after (front_of q ∷ without_last (length rest) (queue_of (set s.queues s.next after) s.next))
      (ap (λ (l : List ℕ). front_of q ∷ without_last (length rest) l) queue_is ∙ front_back q rest (v.clock.next_lives run.alive)) in
      let cycle_is = clock_back (set s.queues s.next after) (clock_of s) (s.next + 1) in
      let turns_is : s.turns + 1 - 1 ≡ s.turns = omega arith in
      let deaths_is = deaths_back (is_empty after) s.next (s.turns + 1) s.deaths in
      rw (core_is, queues_is, cycle_is, turns_is, deaths_is)

  no_turn : s.turns - 0 ≡ s.turns
  no_turn = omega arith

  no_cycle : s.cycle - cycles_of (not (s.cycle == s.cycle)) ≡ s.cycle
  no_cycle = rw (same_eq s.cycle) (omega arith)

  set_cell_back : (a : ℕ) (c : Cell) → reverted (edit_record s (edit.SetCell a c)) (edited s (edit.SetCell a c)) ≡ s
  unfolding reverted edited edit_record
  set_cell_back a c = rw (set_back s.core a c empty_cell, no_turn, no_cycle)

  move_back : (w i a : ℕ) → IsProcess s w i → reverted (edit_record s (edit.MoveProcess w i a)) (edited s (edit.MoveProcess w i a)) ≡ s
  unfolding reverted edited edit_record
  move_back w i a p =
      let q = queue_of s.queues w in
      let queue_is = queue_set s.queues w (set q i a) p.warrior in
      let queues_is =
      requeued_back s.queues w (set q i a) (set (queue_of (set s.queues w (set q i a)) w) i (get_or q i 0))
      (ap (λ (l : List ℕ). set l i (get_or q i 0)) queue_is ∙ set_back q i a 0) in
      rw (queues_is, no_turn, no_cycle)

  spawn_back : (w a : ℕ) → CanSpawn s w a → reverted (edit_record s (edit.Spawn w a)) (edited s (edit.Spawn w a)) ≡ s
  unfolding reverted edited edit_record
  spawn_back w a k =
      let q = queue_of s.queues w in
      let queue_is = queue_set s.queues w (q ++ a ∷ []) k.warrior in
      let queues_is =
      requeued_back s.queues w (q ++ a ∷ []) (without_last 1 (queue_of (set s.queues w (q ++ a ∷ [])) w))
      (ap (without_last 1) queue_is ∙ without_last-append q (a ∷ [])) in
      rw (queues_is, no_turn, no_cycle)

  -- Reverting a kill that left the warrior `w` with the queue `q` gives the state before the kill.
  left_back : (w i : ℕ) (q : List ℕ) → insert q i (get_or (queue_of s.queues w) i 0) ≡ queue_of s.queues w → w < length s.queues → reverted (killing s w i q) (left_of s w q) ≡ s
  unfolding reverted
  left_back w i [] e h =
      let back = get_or (queue_of s.queues w) i 0 in
      let queues_is = requeued_back s.queues w [] (insert (queue_of (set s.queues w []) w) i back) (ap (λ (l : List ℕ). insert l i back) (queue_set s.queues w [] h) ∙ e) in
      rw (queues_is, no_turn, clock_back (set s.queues w []) (clock_of s) s.next, deaths_back true w s.turns s.deaths)
  left_back w i (x ∷ q) e h =
      let back = get_or (queue_of s.queues w) i 0 in
      let queues_is = requeued_back s.queues w (x ∷ q) (insert (queue_of (set s.queues w (x ∷ q)) w) i back) (ap (λ (l : List ℕ). insert l i back) (queue_set s.queues w (x ∷ q) h) ∙ e) in
      rw (queues_is, no_turn, no_cycle)

  kill_back : (w i : ℕ) → IsProcess s w i → reverted (edit_record s (edit.KillProcess w i)) (edited s (edit.KillProcess w i)) ≡ s
  unfolding edited edit_record killed
  kill_back w i p = left_back w i (remove (queue_of s.queues w) i) (insert_back (queue_of s.queues w) i p.place) p.warrior

  edit_back : (e : Edit) → edit_fault s e ≡ None → reverted (edit_record s e) (edited s e) ≡ s
  edit_back (edit.SetCell a c) f = set_cell_back a c
  edit_back (edit.MoveProcess w i a) f = move_back w i a (accepted_move s w i a f).1
  edit_back (edit.KillProcess w i) f = kill_back w i (accepted_kill s w i f)
  edit_back (edit.Spawn w a) f = spawn_back w a (accepted_spawn s w a f)

-- Reverting a record gives the state that it leads from.
pub record_reverted : (s : State) (atom : Atom) (t : State) → Leads s atom t → reverted atom t ≡ s
record_reverted s atom t (inl l) = rw (l.state_is, l.atom_is) (turn_back s l.valid l.running)
record_reverted s atom t (inr l) = rw (l.state_is, l.atom_is) (edit_back s l.valid l.edit l.accepted)
