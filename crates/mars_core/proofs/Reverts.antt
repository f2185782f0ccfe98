-- What follows, for the code that reverts a record, from the fact that the record leads to the present state. `revert`
-- requires that the record leads here from some state, a pair that the caller provides, and results in every such state
-- (`record_determines_predecessor` states that there is only one). The facts that the code needs are stated by cases on
-- the work (`CanRestore`) and derived from `Leads` once. A queue is changed by a function of one queue (`with_queue`),
-- so that all kinds of work are indexed alike.
use Rattle.std.proofs.Common.{◌≡◌, ℕ, ◌+◌, ◌-◌, ◌<◌, ◌≤◌, List, [], ◌∷◌, length, set, drop, inl, inr, sym, subst, arith, false, cond, Option, Some, None}
use Rattle.std.specs.Prelude.{◌==◌, not, remove}
use Rattle.std.proofs.lemmas.List.{length-set, length-append, length-drop}
use Rattle.std.proofs.lemmas.List.Edits.{length-remove}
use Rattle.std.proofs.lemmas.List.Elements.{All-cons, All-nil}
use Rattle.std.proofs.lemmas.Bool.Decides.{nat_tests}
use Rattle.mars_cell.specs.declared.instruction.Cell.{Cell}
use Rattle.mars_cell.specs.Parameters.{Parameters}
use Rattle.mars_core.specs.State.{State, state_of, queue_of, advanced, moved_clock, live_from, clock_of, is_over_of}
use Rattle.mars_core.specs.Validity.{IsValid}
use Rattle.mars_core.specs.Queue.{Queue, addresses_of}
use Rattle.mars_core.specs.Turn.{front_of, front_execution, accepted, queue_after, executed, turn_of, turn_record}
use Rattle.mars_core.specs.Edit.{left_of, killed, edit_fault, edited, edit_record, IsProcess, CanSpawn}
use Rattle.mars_core.specs.Leads.{Leads}
use Rattle.mars_core.specs.Record.{restored, without_last, warrior_of, queue_before, with_queue, turns_of, cycles_of, reverted}
use Rattle.mars_core.specs.Code.Records.{CanRestore, HasQueue}
use Rattle.mars_core.specs.declared.record.Atom.{Atom}
use Rattle.mars_core.specs.declared.machine.writes.CellChange.{CellChange}
use Rattle.mars_core.specs.declared.deaths.Death.{Death}
use Rattle.mars_core.specs.declared.battle.edit.Edit.{Edit}
use Rattle.mars_core.specs.declared.battle.edit.Edit.TheVariants as edit
use Rattle.mars_core.specs.declared.machine.clock.Clock.{Clock}
use Rattle.mars_core.proofs.Accepted.{accepted_set_cell, accepted_move, accepted_kill, accepted_spawn}
use Rattle.mars_core.proofs.Fits.{execution_keeps}
use Rattle.mars_core.proofs.Inside.{AreInside, execution_inside}
use Rattle.mars_core.proofs.Restored.{killing, queue_set}
use Rattle.mars_core.proofs.Turns.{running, filled_length, queue_fits}

-- The facts that the code needs to revert a record.
pub record CanRevert (atom : Atom) (t : State) : Type 0 where
  pub cells : AreInside (length t.core) atom.cells.items
  pub queue : HasQueue (warrior_of atom.work) (CanRestore t.params.processes atom.work (length atom.queued.items)) t.queues
  pub turns : turns_of atom.work ≤ t.turns
  pub cycle : cycles_of atom.cycle_added ≤ t.cycle

moved_up : (clock : Clock) (o z : Option ℕ) → clock.cycle ≤ (moved_clock clock o z).cycle
moved_up clock (Some k) z = omega arith
moved_up clock None (Some k) = omega arith
moved_up clock None None = omega arith

advanced_up : (qs : List (List ℕ)) (clock : Clock) (i : ℕ) → clock.cycle ≤ (advanced qs clock i).cycle
unfolding advanced
advanced_up qs clock i = moved_up clock (live_from qs i) (live_from qs 0)

added : (c d : ℕ) → c ≤ d → cycles_of (not (d == c)) ≤ d
added c d h = grind (arith, nat_tests)

pub no_cells : (m : ℕ) → AreInside m []
no_cells m = All-nil (λ (c : CellChange). c.address < m)

module _ (s : State) (v : IsValid s) where
  turn_can : is_over_of s ≡ false → CanRevert (turn_record s) (turn_of s)
  unfolding turn_record turn_of executed
  turn_can over =
      let run = running s.params.cycles s.cycle s.queues v.some over in
      let p = s.params in
      let q = queue_of s.queues s.next in
      let after = queue_after p s.core q in
      let at = queue_set s.queues s.next after v.clock.next in
      let fits = queue_fits s v s.next v.clock.next in
      let filled = filled_length q (v.clock.next_lives run.alive) in
      let many = length-append (drop 1 q) (accepted p s.core q) in
      let fewer = length-drop 1 q in
      record {
        cells = subst (λ m. AreInside m (front_execution p s.core q).written.changes) (sym (execution_keeps p s.core (front_of q) v.params v.core).core.size) (execution_inside p v.params.core_least s.core (front_of q));
        queue = (simp length-set v.clock.next, (rw at (omega (arith, many)), rw at (omega (arith, many, fewer, fits.room, filled))));
        turns = omega arith;
        cycle = added s.cycle _ (advanced_up (set s.queues s.next after) (clock_of s) (s.next + 1));
      }

  set_cell_can : (a : ℕ) (c : Cell) → a < s.params.core_size → CanRevert (edit_record s (edit.SetCell a c)) (edited s (edit.SetCell a c))
  unfolding edited edit_record
  set_cell_can a c h = record {
    cells = All-cons (λ (d : CellChange). d.address < length (set s.core a c)) _ [] (simp length-set (rw v.core.size h)) (no_cells (length (set s.core a c)));
    queue = tt;
    turns = omega arith;
    cycle = added s.cycle s.cycle (omega arith);
  }

  move_can : (w i a : ℕ) → IsProcess s w i → CanRevert (edit_record s (edit.MoveProcess w i a)) (edited s (edit.MoveProcess w i a))
  unfolding edited edit_record
  move_can w i a p =
      let q = queue_of s.queues w in
      let at = queue_set s.queues w (set q i a) p.warrior in
      record {
        cells = no_cells (length s.core);
        queue = (simp length-set p.warrior, rw at (simp length-set p.place));
        turns = omega arith;
        cycle = added s.cycle s.cycle (omega arith);
      }

  spawn_can : (w a : ℕ) → CanSpawn s w a → CanRevert (edit_record s (edit.Spawn w a)) (edited s (edit.Spawn w a))
  unfolding edited edit_record
  spawn_can w a k = record {
    cells = no_cells (length s.core);
    queue = (simp length-set k.warrior, tt);
    turns = omega arith;
    cycle = added s.cycle s.cycle (omega arith);
  }

  left_can : (w i : ℕ) (q : List ℕ) → w < length s.queues → i ≤ length q → length q < s.params.processes → CanRevert (killing s w i q) (left_of s w q)
  left_can w i [] h k l =
      let at = queue_set s.queues w [] h in
      record {
        cells = no_cells (length s.core);
        queue = (simp length-set h, (rw at k, rw at l));
        turns = omega arith;
        cycle = added s.cycle _ (advanced_up (set s.queues w []) (clock_of s) s.next);
      }
  left_can w i (x ∷ q) h k l =
      let at = queue_set s.queues w (x ∷ q) h in
      record {
        cells = no_cells (length s.core);
        queue = (simp length-set h, (rw at k, rw at l));
        turns = omega arith;
        cycle = added s.cycle s.cycle (omega arith);
      }

  kill_can : (w i : ℕ) → IsProcess s w i → CanRevert (edit_record s (edit.KillProcess w i)) (edited s (edit.KillProcess w i))
  unfolding edited edit_record killed
  kill_can w i p =
      let q = queue_of s.queues w in
      let fewer = length-remove q i p.place in
      let fits = queue_fits s v w p.warrior in
      let place = p.place in
      left_can w i (remove q i) p.warrior (omega (arith, fewer, place)) (omega (arith, fewer, fits.room))

  edit_can : (e : Edit) → edit_fault s e ≡ None → CanRevert (edit_record s e) (edited s e)
  edit_can (edit.SetCell a c) f = set_cell_can a c (accepted_set_cell s a c f).0
  edit_can (edit.MoveProcess w i a) f = move_can w i a (accepted_move s w i a f).1
  edit_can (edit.KillProcess w i) f = kill_can w i (accepted_kill s w i f)
  edit_can (edit.Spawn w a) f = spawn_can w a (accepted_spawn s w a f)

pub can_revert : (s t : State) (atom : Atom) → Leads s atom t → CanRevert atom t
can_revert s t atom (inl l) = rw (l.state_is, l.atom_is) (turn_can s l.valid l.running)
can_revert s t atom (inr l) = rw (l.state_is, l.atom_is) (edit_can s l.valid l.edit l.accepted)

-- The state that a record leads from is valid.
pub led_valid : (s t : State) (atom : Atom) → Leads s atom t → IsValid s
led_valid s t atom (inl l) = l.valid
led_valid s t atom (inr l) = l.valid

-- The battle that the code has after it reverted a record is the state that `reverted` defines.
pub reverted_state : (p : Parameters) (core : List Cell) (qs : List Queue) (next cycle turns : ℕ) (deaths : List Death) (atom : Atom)
    (core' : List Cell) (qs' : List Queue) (cycles' turns' : ℕ) (deaths' : List Death)
    → core' ≡ restored atom.cells.items core
    → addresses_of qs' ≡ with_queue (warrior_of atom.work) (queue_before atom.work (length atom.queued.items)) (addresses_of qs)
    → cycles' ≡ cycles_of atom.cycle_added → turns' ≡ turns_of atom.work
    → deaths' ≡ cond atom.died (without_last 1 deaths) deaths
    → state_of p core' qs' atom.next_before (cycle - cycles') (turns - turns') deaths' ≡ reverted atom (state_of p core qs next cycle turns deaths)
unfolding reverted
reverted_state p core qs next cycle turns deaths atom core' qs' cycles' turns' deaths' a b c d e = rw (a, b, c, d, e)
