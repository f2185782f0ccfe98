-- An edit of a valid state results in a valid state.
use Rattle.std.proofs.Common.{◌≡◌, ◌≢◌, ℕ, suc, ◌<◌, List, [], ◌∷◌, ◌++◌, length, set, take, drop, refl, ap, sym, ◌∙◌, arith, false, None}
use Rattle.std.specs.Prelude.{remove}
use Rattle.std.proofs.lemmas.List.{length-set, length-append}
use Rattle.std.proofs.lemmas.List.Edits.{length-remove}
use Rattle.std.proofs.lemmas.List.Elements.{All-set, All-append, All-take, All-drop, All-push}
use Rattle.mars_cell.specs.declared.instruction.Cell.{Cell}
use Rattle.mars_cell.specs.Cells.{FitsCore}
use Rattle.mars_core.specs.State.{State, is_empty, queue_of, clock_of}
use Rattle.mars_core.specs.Edit.{left_of, killed, edit_fault, edited, IsProcess, CanSpawn}
use Rattle.mars_core.specs.Validity.{IsQueue, IsValid}
use Rattle.mars_core.specs.declared.battle.edit.Edit.{Edit}
use Rattle.mars_core.specs.declared.battle.edit.Edit.TheVariants as edit
use Rattle.mars_core.proofs.Accepted.{accepted_set_cell, accepted_move, accepted_kill, accepted_spawn}
use Rattle.mars_core.proofs.EditClocks.{clock_after_death, clock_kept}
use Rattle.mars_core.proofs.Live.{is_filled}
use Rattle.mars_core.proofs.Turns.{deaths_after, queue_fits}

-- A queue with a process at the place `i` is not empty.
pub place_filled : (q : List ℕ) (i : ℕ) → i < length q → q ≢ []
place_filled [] i h = absurd (omega arith)
place_filled (x ∷ q) i h = λ e. cc

pub pushed_filled : (q : List ℕ) (x : ℕ) → q ++ x ∷ [] ≢ []
pushed_filled [] x = λ e. cc
pushed_filled (y ∷ q) x = λ e. cc

pub set_filled : (q : List ℕ) (i x : ℕ) → q ≢ [] → set q i x ≢ []
set_filled q i x h = λ e. h (no_items q (sym (length-set q i x) ∙ ap length e))
  where
    no_items : (q : List ℕ) → length q ≡ 0 → q ≡ []
    no_items [] e = refl
    no_items (x ∷ q) e = cc

not_empty : (q : List ℕ) → q ≢ [] → is_empty q ≡ false
not_empty [] h = absurd (h refl)
not_empty (x ∷ q) h = refl

module _ (s : State) (v : IsValid s) where
  valid_set_cell : (a : ℕ) (c : Cell) → FitsCore s.params.core_size c → IsValid (record s { core = set s.core a c })
  valid_set_cell a c f = record {
    params = v.params;
    core = record { size = length-set s.core a c ∙ v.core.size; cells = All-set (FitsCore s.params.core_size) s.core a c f v.core.cells };
    some = v.some;
    few = v.few;
    queues = v.queues;
    deaths = v.deaths;
    clock = v.clock;
  }

  -- Replacing the queue of a live warrior by one that is not empty keeps the state valid.
  valid_requeued : (w : ℕ) (q : List ℕ) → w < length s.queues → queue_of s.queues w ≢ [] → q ≢ [] → IsQueue s.params.core_size s.params.processes q
      → IsValid (record s { queues = set s.queues w q })
  valid_requeued w q h n m f =
      let deaths = deaths_after s.queues s.deaths w s.turns h n v.deaths q in
      record {
        params = v.params;
        core = v.core;
        some = rw length-set v.some;
        few = rw length-set v.few;
        queues = All-set (IsQueue s.params.core_size s.params.processes) s.queues w q f v.queues;
        deaths = rw (not_empty q m) at deaths;
        clock = clock_kept s.params.cycles s.queues (clock_of s) s.turns w q v.clock h n m;
      }

  valid_moved : (w i a : ℕ) → IsProcess s w i → a < s.params.core_size → IsValid (record s { queues = set s.queues w (set (queue_of s.queues w) i a) })
  valid_moved w i a p h =
      let q = queue_of s.queues w in
      let filled = place_filled q i p.place in
      let fits = queue_fits s v w p.warrior in
      valid_requeued w (set q i a) p.warrior filled (set_filled q i a filled)
      (record { addresses = All-set (λ n. n < s.params.core_size) q i a h fits.addresses; room = rw length-set fits.room })

  valid_spawned : (w a : ℕ) → CanSpawn s w a → IsValid (record s { queues = set s.queues w (queue_of s.queues w ++ a ∷ []) })
  valid_spawned w a k =
      let q = queue_of s.queues w in
      let fits = queue_fits s v w k.warrior in
      valid_requeued w (q ++ a ∷ []) k.warrior (is_filled q k.alive) (pushed_filled q a)
      (record { addresses = All-push (λ n. n < s.params.core_size) q a fits.addresses k.address_in; room = simp length-append (omega (arith, k.room)) })

  removed_fits : (w i : ℕ) → IsProcess s w i → IsQueue s.params.core_size s.params.processes (remove (queue_of s.queues w) i)
  removed_fits w i p =
      let q = queue_of s.queues w in
      let fits = queue_fits s v w p.warrior in
      record {
        addresses =
            All-append (λ n. n < s.params.core_size) (take i q) (drop (suc i) q)
            (All-take (λ n. n < s.params.core_size) i q fits.addresses) (All-drop (λ n. n < s.params.core_size) (suc i) q fits.addresses);
        room = omega (arith, length-remove q i p.place, fits.room);
      }

  -- The state after an edit that left the warrior `w` with the queue `q` is valid.
  valid_left : (w : ℕ) (q : List ℕ) → w < length s.queues → queue_of s.queues w ≢ [] → IsQueue s.params.core_size s.params.processes q → IsValid (left_of s w q)
  unfolding killed
  valid_left w [] h n f = record {
    params = v.params;
    core = v.core;
    some = rw length-set v.some;
    few = rw length-set v.few;
    queues = All-set (IsQueue s.params.core_size s.params.processes) s.queues w [] f v.queues;
    deaths = deaths_after s.queues s.deaths w s.turns h n v.deaths [];
    clock = clock_after_death s.params.cycles s.queues (clock_of s) s.turns w v.clock h n;
  }
  valid_left w (x ∷ q) h n f = valid_requeued w (x ∷ q) h n (λ e. cc) f

  valid_killed : (w i : ℕ) → IsProcess s w i → IsValid (killed s w i)
  unfolding killed
  valid_killed w i p =
      valid_left w (remove (queue_of s.queues w) i) p.warrior (place_filled (queue_of s.queues w) i p.place) (removed_fits w i p)

-- Each kind of edit keeps a state valid.
pub set_cell_valid : (s : State) (a : ℕ) (c : Cell) → IsValid s → FitsCore s.params.core_size c → IsValid (edited s (edit.SetCell a c))
unfolding edited
set_cell_valid s a c v f = valid_set_cell s v a c f

pub move_valid : (s : State) (w i a : ℕ) → IsValid s → IsProcess s w i → a < s.params.core_size → IsValid (edited s (edit.MoveProcess w i a))
unfolding edited
move_valid s w i a v p h = valid_moved s v w i a p h

pub kill_valid : (s : State) (w i : ℕ) → IsValid s → IsProcess s w i → IsValid (edited s (edit.KillProcess w i))
unfolding edited
kill_valid s w i v p = valid_killed s v w i p

pub spawn_valid : (s : State) (w a : ℕ) → IsValid s → CanSpawn s w a → IsValid (edited s (edit.Spawn w a))
unfolding edited
spawn_valid s w a v k = valid_spawned s v w a k

-- An edit of a valid state results in a valid state.
pub edit_valid : (s : State) (e : Edit) → IsValid s → edit_fault s e ≡ None → IsValid (edited s e)
edit_valid s (edit.SetCell a c) v f = set_cell_valid s a c v (accepted_set_cell s a c f).1
edit_valid s (edit.MoveProcess w i a) v f =
    let k = accepted_move s w i a f in move_valid s w i a v k.1 k.0
edit_valid s (edit.KillProcess w i) v f = kill_valid s w i v (accepted_kill s w i f)
edit_valid s (edit.Spawn w a) v f = spawn_valid s w a v (accepted_spawn s w a f)
