-- Applying a record gives the state that the record leads to.
use Rattle.std.proofs.Common.{◌≡◌, ℕ, ◌+◌, List, [], ◌∷◌, ◌++◌, set, inl, inr, refl, ap, ◌∙◌, arith, Option, Some, None}
use Rattle.std.specs.Prelude.{◌==◌, not, remove}
use Rattle.std.proofs.lemmas.Bool.Decides.{nat_tests}
use Rattle.mars_cell.specs.declared.instruction.Cell.{Cell}
use Rattle.mars_cell.specs.declared.instruction.Field.{Field}
use Rattle.mars_cell.specs.declared.instruction.Mode.{Mode}
use Rattle.mars_cell.specs.declared.instruction.Mode.TheVariants.{Immediate, Direct, AIndirect, BIndirect, APredecrement, BPredecrement, APostincrement, BPostincrement}
use Rattle.mars_cell.specs.Parameters.{Parameters}
use Rattle.mars_core.specs.State.{State, cell_at, queue_of, advanced, moved_clock, live_from, clock_of}
use Rattle.mars_core.specs.Addresses.{address_after}
use Rattle.mars_core.specs.Writes.{WrittenCore, write_cell, write_field}
use Rattle.mars_core.specs.Operand.{predecremented, postincremented, evaluated}
use Rattle.mars_core.specs.Effect.{effect_of}
use Rattle.mars_core.specs.Turn.{after_effect, execution_of, front_of, queue_after, executed, turn_of, turn_record}
use Rattle.mars_core.specs.Record.{rewritten, cycles_of, applied}
use Rattle.mars_core.specs.Edit.{left_of, killed, edited, edit_record}
use Rattle.mars_core.specs.Leads.{Leads}
use Rattle.mars_core.specs.declared.record.Atom.{Atom}
use Rattle.mars_core.specs.declared.battle.edit.Edit.{Edit}
use Rattle.mars_core.specs.declared.battle.edit.Edit.TheVariants as edit
use Rattle.mars_core.proofs.Turns.{same_eq}
use Rattle.mars_core.proofs.Restored.{killing}
use Rattle.mars_core.specs.declared.machine.writes.CellChange.{CellChange}
use Rattle.mars_core.specs.declared.machine.clock.Clock.{Clock}

rewritten-append : (xs ys : List CellChange) (core : List Cell) → rewritten (xs ++ ys) core ≡ rewritten ys (rewritten xs core)
rewritten-append [] ys core = refl
rewritten-append (x ∷ xs) ys core = rewritten-append xs ys (set core x.address x.after)

module _ (core : List Cell) where
  -- Redoing the changes of a written core on the core before them gives the written core.
  abbrev pub Replays : WrittenCore → Type 0
  Replays written = rewritten written.changes core ≡ written.core

  written_replays : (written : WrittenCore) (a : ℕ) (cell : Cell) → Replays written → Replays (write_cell written a cell)
  unfolding write_cell
  written_replays written a cell r = rewritten-append written.changes _ core ∙ ap (λ (c : List Cell). set c a cell) r

  changed_replays : (f : ℕ → ℕ) (field : Field) (written : WrittenCore) (a : ℕ) → Replays written → Replays (write_field f field written a)
  unfolding write_field
  changed_replays f field written a r = written_replays written a _ r

  before_replays : (p : Parameters) (field : Field) (written : WrittenCore) (pc n : ℕ) → Replays written → Replays (predecremented p field written pc n).written
  unfolding predecremented
  before_replays p field written pc n r = changed_replays _ field written _ r

  after_replays : (p : Parameters) (field : Field) (written : WrittenCore) (pc n : ℕ) → Replays written → Replays (postincremented p field written pc n).written
  unfolding postincremented
  after_replays p field written pc n r = changed_replays _ field written _ r

  evaluated_replays : (p : Parameters) (written : WrittenCore) (pc : ℕ) (mode : Mode) (n : ℕ) → Replays written → Replays (evaluated p written pc mode n).written
  unfolding evaluated
  evaluated_replays p written pc Immediate n r = r
  evaluated_replays p written pc Direct n r = r
  evaluated_replays p written pc AIndirect n r = r
  evaluated_replays p written pc BIndirect n r = r
  evaluated_replays p written pc APredecrement n r = before_replays p _ written pc n r
  evaluated_replays p written pc BPredecrement n r = before_replays p _ written pc n r
  evaluated_replays p written pc APostincrement n r = after_replays p _ written pc n r
  evaluated_replays p written pc BPostincrement n r = after_replays p _ written pc n r

  effect_replays : (written : WrittenCore) (a : ℕ) (target : Option Cell) → Replays written → Replays (after_effect written a target)
  effect_replays written a None r = r
  effect_replays written a (Some cell) r = written_replays written a cell r

pub execution_replays : (p : Parameters) (core : List Cell) (pc : ℕ) → Replays core (execution_of p core pc).written
unfolding execution_of
execution_replays p core pc =
    let instruction = cell_at core pc in
    let start : WrittenCore = record { core = core; changes = [] } in
    let a = evaluated p start pc instruction.a_mode instruction.a in
    let b = evaluated p a.written pc instruction.b_mode instruction.b in
    let address = address_after p.core_size pc b.operand.write in
    let effect = effect_of p.core_size instruction.op instruction.modifier a.operand.copy b.operand.copy (cell_at b.written.core address) pc a.operand.read in
    effect_replays core b.written address effect.target
    (evaluated_replays core p a.written pc instruction.b_mode instruction.b (evaluated_replays core p start pc instruction.a_mode instruction.a refl))

cycle_on : (clock : Clock) (o z : Option ℕ) → let c = (moved_clock clock o z).cycle in clock.cycle + cycles_of (not (c == clock.cycle)) ≡ c
cycle_on clock (Some k) z = grind (arith, nat_tests)
cycle_on clock None (Some k) = grind (arith, nat_tests)
cycle_on clock None None = grind (arith, nat_tests)

clock_on : (qs : List (List ℕ)) (clock : Clock) (i : ℕ) → let c = (advanced qs clock i).cycle in clock.cycle + cycles_of (not (c == clock.cycle)) ≡ c
unfolding advanced
clock_on qs clock i = cycle_on clock (live_from qs i) (live_from qs 0)

module _ (s : State) where
  turn_on : applied (turn_record s) s ≡ turn_of s
  unfolding applied turn_of turn_record executed
  turn_on =
      let q = queue_of s.queues s.next in
      let core_is = execution_replays s.params s.core (front_of q) in
      let cycle_is = clock_on (set s.queues s.next (queue_after s.params s.core q)) (clock_of s) (s.next + 1) in
      rw (core_is, cycle_is)

  no_turn : s.turns + 0 ≡ s.turns
  no_turn = omega arith

  no_cycle : s.cycle + cycles_of (not (s.cycle == s.cycle)) ≡ s.cycle
  no_cycle = rw (same_eq s.cycle) (omega arith)

  left_on : (w i : ℕ) (q : List ℕ) → q ≡ remove (queue_of s.queues w) i → applied (killing s w i q) s ≡ left_of s w q
  unfolding applied
  left_on w i [] e = rw (← e, no_turn, clock_on (set s.queues w []) (clock_of s) s.next)
  left_on w i (x ∷ q) e = rw (← e, no_turn, no_cycle)

  kill_on : (w i : ℕ) → applied (edit_record s (edit.KillProcess w i)) s ≡ edited s (edit.KillProcess w i)
  unfolding edited edit_record killed
  kill_on w i = left_on w i (remove (queue_of s.queues w) i) refl

  edit_on : (e : Edit) → applied (edit_record s e) s ≡ edited s e
  unfolding applied edited edit_record
  edit_on (edit.SetCell a c) = rw (no_turn, no_cycle)
  edit_on (edit.MoveProcess w i a) = rw (no_turn, no_cycle)
  edit_on (edit.KillProcess w i) = kill_on w i
  edit_on (edit.Spawn w a) = rw (no_turn, no_cycle)

-- Applying a record gives the state that it leads to.
pub record_applied : (s : State) (atom : Atom) (t : State) → Leads s atom t → applied atom s ≡ t
record_applied s atom t (inl l) = rw (l.state_is, l.atom_is) (turn_on s)
record_applied s atom t (inr l) = rw (l.state_is, l.atom_is) (edit_on s l.edit)
