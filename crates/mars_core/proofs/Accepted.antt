-- The conditions that hold for an edit that has no error.
use Rattle.std.proofs.Common.{◌≡◌, ℕ, ◌<◌, Bool, true, false, length, refl, arith, Option, None, Some, []}
use Rattle.std.specs.Prelude.{nat_lt, ◌&&◌, if◌then◌else◌}
use Rattle.std.specs.Option.{option_or}
use Rattle.std.proofs.lemmas.Bool.Decides.{nat_tests}
use Rattle.std.proofs.lemmas.List.Elements.{All-get_or}
use Rattle.mars_cell.specs.declared.instruction.Cell.{Cell}
use Rattle.mars_cell.specs.Cells.{FitsCore}
use Rattle.mars_core.specs.State.{State, is_empty, queue_of}
use Rattle.mars_core.specs.Edit.{address_fault, cell_fault, warrior_fault, process_fault, dead_warrior_fault, full_queue_fault, edit_fault, IsProcess, CanSpawn}
use Rattle.mars_core.specs.Validity.{IsQueue, IsValid}
use Rattle.mars_core.specs.declared.battle.edit.Edit.TheVariants as edit
use Rattle.mars_core.specs.declared.battle.edit.EditFault.{EditFault}

none_or : (x y : Option EditFault) → option_or x y ≡ None → (x ≡ None) × (y ≡ None)
none_or None y e = (refl, e)
none_or (Some f) y e = cc

passed : (b : Bool) (f : EditFault) → (if b then None else Some f) ≡ None → b ≡ true
passed true f e = refl
passed false f e = cc

failed : (b : Bool) (f : EditFault) → (if b then Some f else None) ≡ None → b ≡ false
failed true f e = cc
failed false f e = refl

is_below : (m n : ℕ) → nat_lt m n ≡ true → m < n
is_below m n e = grind (arith, nat_tests)

are_below : (a b n : ℕ) → (nat_lt a n && nat_lt b n) ≡ true → (a < n) × (b < n)
are_below a b n e = (grind (arith, nat_tests), grind (arith, nat_tests))

module _ (s : State) where
  address_in : (a : ℕ) → address_fault s.params.core_size a ≡ None → a < s.params.core_size
  address_in a e = is_below a s.params.core_size (passed (nat_lt a s.params.core_size) _ e)

  cell_in : (c : Cell) → cell_fault s.params.core_size c ≡ None → FitsCore s.params.core_size c
  cell_in c e =
      let both = are_below c.a c.b s.params.core_size (passed (nat_lt c.a s.params.core_size && nat_lt c.b s.params.core_size) _ e) in
      record { a = both.0; b = both.1 }

  warrior_in : (w : ℕ) → warrior_fault s w ≡ None → w < length s.queues
  warrior_in w e = is_below w (length s.queues) (passed (nat_lt w (length s.queues)) _ e)

  process_in : (w i : ℕ) → process_fault s w i ≡ None → i < length (queue_of s.queues w)
  process_in w i e = is_below i (length (queue_of s.queues w)) (passed (nat_lt i (length (queue_of s.queues w))) _ e)

  alive_is : (w : ℕ) → dead_warrior_fault s w ≡ None → is_empty (queue_of s.queues w) ≡ false
  alive_is w e = failed (is_empty (queue_of s.queues w)) _ e

  room_is : (w : ℕ) → full_queue_fault s w ≡ None → length (queue_of s.queues w) < s.params.processes
  room_is w e = is_below (length (queue_of s.queues w)) s.params.processes (passed (nat_lt (length (queue_of s.queues w)) s.params.processes) _ e)

  pub accepted_set_cell : (a : ℕ) (c : Cell) → edit_fault s (edit.SetCell a c) ≡ None → (a < s.params.core_size) × FitsCore s.params.core_size c
  unfolding edit_fault
  accepted_set_cell a c e =
      let parts = none_or (address_fault s.params.core_size a) (cell_fault s.params.core_size c) e in (address_in a parts.0, cell_in c parts.1)

  pub accepted_move : (w i a : ℕ) → edit_fault s (edit.MoveProcess w i a) ≡ None → (a < s.params.core_size) × IsProcess s w i
  unfolding edit_fault
  accepted_move w i a e =
      let parts = none_or (option_or (address_fault s.params.core_size a) (warrior_fault s w)) (process_fault s w i) e in
      let first = none_or (address_fault s.params.core_size a) (warrior_fault s w) parts.0 in
      (address_in a first.0, record { warrior = warrior_in w first.1; place = process_in w i parts.1 })

  pub accepted_kill : (w i : ℕ) → edit_fault s (edit.KillProcess w i) ≡ None → IsProcess s w i
  unfolding edit_fault
  accepted_kill w i e =
      let parts = none_or (warrior_fault s w) (process_fault s w i) e in
      record { warrior = warrior_in w parts.0; place = process_in w i parts.1 }

  pub accepted_spawn : (w a : ℕ) → edit_fault s (edit.Spawn w a) ≡ None → CanSpawn s w a
  unfolding edit_fault
  accepted_spawn w a e =
      let third = none_or (option_or (option_or (address_fault s.params.core_size a) (warrior_fault s w)) (dead_warrior_fault s w)) (full_queue_fault s w) e in
      let second = none_or (option_or (address_fault s.params.core_size a) (warrior_fault s w)) (dead_warrior_fault s w) third.0 in
      let first = none_or (address_fault s.params.core_size a) (warrior_fault s w) second.0 in
      record { address_in = address_in a first.0; warrior = warrior_in w first.1; alive = alive_is w second.1; room = room_is w third.1 }

  -- The index of a warrior and the place of a process are below 65536.
  pub small_warrior : IsValid s → (w : ℕ) → w < length s.queues → w < 65536
  small_warrior v w h = omega (arith, v.few)

  pub small_place : IsValid s → (w i : ℕ) → IsProcess s w i → i < 65536
  small_place v w i k =
      let fits = All-get_or (IsQueue s.params.core_size s.params.processes) s.queues w [] k.warrior v.queues in
      omega (arith, k.place, fits.room, v.params.processes_most)
