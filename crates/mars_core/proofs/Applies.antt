-- What follows, for the code that applies a record, from the fact that the record leads from the present state.
use Rattle.std.proofs.Common.{◌≡◌, ℕ, ◌+◌, ◌-◌, ◌<◌, List, [], length, drop, inl, inr, sym, subst, arith, true, false, None}
use Rattle.std.proofs.lemmas.List.{length-take, length-drop}
use Rattle.std.proofs.lemmas.List.Elements.{All-cons}
use Rattle.mars_cell.specs.declared.instruction.Cell.{Cell}
use Rattle.mars_cell.specs.Parameters.{Parameters}
use Rattle.mars_core.specs.Limits.{max_warriors}
use Rattle.mars_core.specs.State.{State, state_of, queue_of, is_over_of}
use Rattle.mars_core.specs.Validity.{IsValid}
use Rattle.mars_core.specs.Queue.{Queue, addresses_of}
use Rattle.mars_core.specs.Turn.{front_of, front_execution, accepted, turn_record}
use Rattle.mars_core.specs.Edit.{edit_fault, edit_record, IsProcess, CanSpawn}
use Rattle.mars_core.specs.Leads.{Leads}
use Rattle.mars_core.specs.Record.{rewritten, warrior_of, queue_after_work, with_queue, deaths_after, turns_of, cycles_of, applied}
use Rattle.mars_core.specs.Code.Records.{CanRequeue, HasQueue}
use Rattle.mars_core.specs.declared.record.Atom.{Atom}
use Rattle.mars_core.specs.declared.machine.writes.CellChange.{CellChange}
use Rattle.mars_core.specs.declared.deaths.Death.{Death}
use Rattle.mars_core.specs.declared.battle.edit.Edit.{Edit}
use Rattle.mars_core.specs.declared.battle.edit.Edit.TheVariants as edit
use Rattle.mars_core.proofs.Accepted.{accepted_set_cell, accepted_move, accepted_kill, accepted_spawn}
use Rattle.mars_core.proofs.Counted.{valid_counted}
use Rattle.mars_core.proofs.EditClocks.{live_survives}
use Rattle.mars_core.proofs.Edits.{place_filled, edit_valid}
use Rattle.mars_core.proofs.Inside.{AreInside, execution_inside}
use Rattle.mars_core.proofs.Reverts.{no_cells}
use Rattle.mars_core.proofs.Turns.{running, filled_length, queue_fits, turn_valid}

-- The facts that the code needs to apply a record.
pub record CanApply (atom : Atom) (s : State) : Type 0 where
  pub cells : AreInside (length s.core) atom.cells.items
  pub queue : HasQueue (warrior_of atom.work) (CanRequeue s.params.processes atom.work (length atom.queued.items)) s.queues
  pub deaths : atom.died ≡ true → length s.deaths < max_warriors

module _ (s : State) (v : IsValid s) where
  -- If a warrior lives, the list of deaths is not full.
  room_for_death : (w : ℕ) → w < length s.queues → ((queue_of s.queues w ≡ []) → ⊥) → length s.deaths < max_warriors
  room_for_death w h lives =
      let alive = live_survives s.queues w h lives in
      let few = v.few in
      omega (arith, alive, few, valid_counted s v)

  turn_can : is_over_of s ≡ false → CanApply (turn_record s) s
  unfolding turn_record accepted
  turn_can over =
      let run = running s.params.cycles s.cycle s.queues v.some over in
      let p = s.params in
      let q = queue_of s.queues s.next in
      let fits = queue_fits s v s.next v.clock.next in
      let lives = v.clock.next_lives run.alive in
      let kept = length-take (p.processes - length (drop 1 q)) (front_execution p s.core q).queued in
      let fewer = length-drop 1 q in
      record {
        cells = subst (λ m. AreInside m (front_execution p s.core q).written.changes) (sym v.core.size) (execution_inside p v.params.core_least s.core (front_of q));
        queue = (v.clock.next, (filled_length q lives, omega (arith, kept, fewer, fits.room)));
        deaths = λ _. room_for_death s.next v.clock.next lives;
      }

  set_cell_can : (a : ℕ) (c : Cell) → a < s.params.core_size → CanApply (edit_record s (edit.SetCell a c)) s
  unfolding edit_record
  set_cell_can a c h = record {
    cells = All-cons (λ (d : CellChange). d.address < length s.core) _ [] (rw v.core.size h) (no_cells (length s.core));
    queue = tt;
    deaths = λ e. cc;
  }

  move_can : (w i a : ℕ) → IsProcess s w i → CanApply (edit_record s (edit.MoveProcess w i a)) s
  unfolding edit_record
  move_can w i a p = record { cells = no_cells (length s.core); queue = (p.warrior, p.place); deaths = λ e. cc }

  kill_can : (w i : ℕ) → IsProcess s w i → CanApply (edit_record s (edit.KillProcess w i)) s
  unfolding edit_record
  kill_can w i p = record {
    cells = no_cells (length s.core);
    queue = (p.warrior, p.place);
    deaths = λ _. room_for_death w p.warrior (place_filled (queue_of s.queues w) i p.place);
  }

  spawn_can : (w a : ℕ) → CanSpawn s w a → CanApply (edit_record s (edit.Spawn w a)) s
  unfolding edit_record
  spawn_can w a k = record { cells = no_cells (length s.core); queue = (k.warrior, k.room); deaths = λ e. cc }

  edit_can : (e : Edit) → edit_fault s e ≡ None → CanApply (edit_record s e) s
  edit_can (edit.SetCell a c) f = set_cell_can a c (accepted_set_cell s a c f).0
  edit_can (edit.MoveProcess w i a) f = move_can w i a (accepted_move s w i a f).1
  edit_can (edit.KillProcess w i) f = kill_can w i (accepted_kill s w i f)
  edit_can (edit.Spawn w a) f = spawn_can w a (accepted_spawn s w a f)

pub can_apply : (s t : State) (atom : Atom) → Leads s atom t → CanApply atom s
can_apply s t atom (inl l) = rw l.atom_is (turn_can s l.valid l.running)
can_apply s t atom (inr l) = rw l.atom_is (edit_can s l.valid l.edit l.accepted)

-- The state that a record leads to is valid.
pub lead_to_valid : (s t : State) (atom : Atom) → Leads s atom t → IsValid t
lead_to_valid s t atom (inl l) = rw l.state_is (turn_valid s l.valid l.running)
lead_to_valid s t atom (inr l) = rw l.state_is (edit_valid s l.edit l.valid l.accepted)

-- The battle that the code has after it applied a record is the state that `applied` defines.
pub applied_state : (p : Parameters) (core : List Cell) (qs : List Queue) (next cycle turns : ℕ) (deaths : List Death) (atom : Atom)
    (core' : List Cell) (qs' : List Queue) (cycles' turns' : ℕ) (deaths' : List Death)
    → core' ≡ rewritten atom.cells.items core
    → addresses_of qs' ≡ with_queue (warrior_of atom.work) (queue_after_work atom.work atom.queued.items) (addresses_of qs)
    → cycles' ≡ cycles_of atom.cycle_added → turns' ≡ turns_of atom.work
    → deaths' ≡ deaths_after (warrior_of atom.work) atom.died (turns + turns') deaths
    → state_of p core' qs' atom.next_after (cycle + cycles') (turns + turns') deaths' ≡ applied atom (state_of p core qs next cycle turns deaths)
unfolding applied
applied_state p core qs next cycle turns deaths atom core' qs' cycles' turns' deaths' a b c d e =
    let f = rw d at e in rw (a, b, c, f, d)
