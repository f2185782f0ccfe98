-- The code executes an edit as the specification states.
use Rattle.std.proofs.Common.{◌≡◌, ◌≢◌, ℕ, ◌+◌, ◌<◌, List, [], ◌∷◌, ◌++◌, length, get_or, set, All, refl, ap, sym, ◌∙◌, arith, Bool, false}
use Rattle.std.specs.Prelude.{remove, if◌then◌else◌, not, ◌==◌}
use Rattle.std.proofs.lemmas.List.{length-set, length-map}
use Rattle.std.proofs.lemmas.List.Elements.{All-set, All-get_or}
use Rattle.mars_cell.specs.declared.instruction.Cell.{Cell}
use Rattle.mars_cell.specs.Parameters.{Parameters}
use Rattle.mars_core.specs.Limits.{max_warriors}
use Rattle.mars_core.specs.State.{State, state_of, is_empty, survivors_of, queue_of, advanced, clock_of}
use Rattle.mars_core.specs.Queue.{Queue, addresses_of}
use Rattle.mars_core.specs.Turn.{with_death}
use Rattle.mars_core.specs.Edit.{left_of, killed, edited, edit_record}
use Rattle.mars_core.specs.Validity.{IsValid}
use Rattle.mars_core.specs.declared.record.Atom.{Atom}
use Rattle.mars_core.specs.declared.machine.writes.CellChange.{CellChange}
use Rattle.mars_core.specs.declared.deaths.Death.{Death}
use Rattle.mars_core.specs.declared.record.Work.{Work}
use Rattle.mars_core.specs.declared.record.Work.TheVariants as work
use Rattle.mars_core.specs.declared.battle.edit.Edit.TheVariants as edit
use Rattle.mars_core.specs.declared.machine.clock.Clock.{Clock}
use Rattle.mars_core.proofs.EditClocks.{live_survives, survivors_kept}
use Rattle.mars_core.proofs.Edits.{place_filled}
use Rattle.mars_core.proofs.Live.{addresses_at}
use Rattle.mars_core.proofs.Turns.{same_eq, counted_after}
use Rattle.mars_core.proofs.TurnState.{addresses-set}

-- The state after an edit left the warrior `w` with the queue `a`, from its parts.
same_left : (s : State) (w : ℕ) (a : List ℕ) (queues : List (List ℕ)) (clock : Clock) (deaths : List Death)
    → queues ≡ set s.queues w a → deaths ≡ with_death (is_empty a) w s.turns s.deaths
    → clock ≡ (if is_empty a then advanced (set s.queues w a) (clock_of s) s.next else clock_of s)
    → record { params = s.params; core = s.core; queues = queues; next = clock.next; cycle = clock.cycle; turns = s.turns; deaths = deaths } ≡ left_of s w a
same_left s w [] queues clock deaths e f g = rw (e, f, g) refl
same_left s w (x ∷ a) queues clock deaths e f g = rw (e, f, g) refl

-- Two records are equal if their parts are equal.
pub atom_is : {work work' : Work} {cells cells' : List CellChange} {queued queued' : List ℕ} {before before' after after' : ℕ} {added added' died died' : Bool}
    → work ≡ work' → cells ≡ cells' → queued ≡ queued' → before ≡ before' → after ≡ after' → added ≡ added' → died ≡ died'
    → ◌≡◌ {A = Atom}
    (record { work = work; cells = record { items = cells }; queued = record { items = queued }; next_before = before; next_after = after; cycle_added = added; died = died })
    (record { work = work'; cells = record { items = cells' }; queued = record { items = queued' }; next_before = before'; next_after = after'; cycle_added = added'; died = died' })
atom_is a b c d e f g = rw (a, b, c, d, e, f, g) refl

stays : (n : ℕ) → false ≡ not (n == n)
stays n = rw (same_eq n) refl

pub move_record : (s : State) (w i a from : ℕ) → from ≡ get_or (queue_of s.queues w) i 0
    → ◌≡◌ {A = Atom} (record { work = work.MoveProcess w i from a; cells = record { items = [] }; queued = record { items = [] }; next_before = s.next; next_after = s.next; cycle_added = false; died = false })
    (edit_record s (edit.MoveProcess w i a))
unfolding edit_record edited
move_record s w i a from e = atom_is (ap (λ n. work.MoveProcess w i n a) e) refl refl refl refl (stays s.cycle) refl

module _ (p : Parameters) (core : List Cell) (qs : List Queue) (next cycle turns : ℕ) (deaths : List Death)
    (v : IsValid (state_of p core qs next cycle turns deaths)) (w : ℕ) (warrior : w < length (addresses_of qs)) (q q' : Queue) (q_is : q ≡ get_or qs w q) where
  pub inside : w < length qs
  inside = simp length-map at warrior

  pub queue_at : queue_of (addresses_of qs) w ≡ q.addresses
  queue_at = addresses_at qs w q inside ∙ ap (λ (q : Queue). q.addresses) (sym q_is)

  -- The limit of the warrior's queue is the process limit of the battle.
  pub limit_is : All (λ (q : Queue). q.limit ≡ p.processes) qs → q.limit ≡ p.processes
  limit_is all = ap (λ (q : Queue). q.limit) q_is ∙ All-get_or (λ (q : Queue). q.limit ≡ p.processes) qs w q inside all

  pub limits_kept : q'.limit ≡ q.limit → All (λ (q : Queue). q.limit ≡ p.processes) qs → All (λ (q : Queue). q.limit ≡ p.processes) (set qs w q')
  limits_kept same all = All-set (λ (q : Queue). q.limit ≡ p.processes) qs w q' (same ∙ limit_is all) all

  -- Changing a queue that is not empty before and after kills no warrior.
  pub counted_kept : q.addresses ≢ [] → q'.addresses ≢ [] → length deaths + survivors_of (addresses_of qs) ≡ length qs → length deaths + survivors_of (addresses_of (set qs w q')) ≡ length (set qs w q')
  counted_kept filled filled' counted =
      rw (addresses-set, length-set, survivors_kept (addresses_of qs) w q'.addresses warrior (λ e. filled (sym queue_at ∙ e)) filled') counted

  -- If a warrior lives, the list of deaths is not full.
  pub kill_room : q.addresses ≢ [] → length deaths + survivors_of (addresses_of qs) ≡ length qs → length deaths < max_warriors
  kill_room filled counted =
      let alive = live_survives (addresses_of qs) w warrior (λ e. filled (sym queue_at ∙ e)) in
      let few = simp length-map at v.few in
      omega arith

  pub moved_state : (i a : ℕ) → q'.addresses ≡ set q.addresses i a → state_of p core (set qs w q') next cycle turns deaths ≡ edited (state_of p core qs next cycle turns deaths) (edit.MoveProcess w i a)
  unfolding edited
  moved_state i a e = rw (addresses-set, e, queue_at) refl

  pub spawned_state : (a : ℕ) → q'.addresses ≡ q.addresses ++ a ∷ [] → state_of p core (set qs w q') next cycle turns deaths ≡ edited (state_of p core qs next cycle turns deaths) (edit.Spawn w a)
  unfolding edited
  spawned_state a e = rw (addresses-set, e, queue_at) refl

  module _ (i : ℕ) (place : i < length (queue_of (addresses_of qs) w)) (deaths' : List Death) (clock' : Clock)
      (queue_is : q'.addresses ≡ remove q.addresses i)
      (deaths_is : deaths' ≡ with_death (is_empty q'.addresses) w turns deaths)
      (clock_is : clock' ≡ (if is_empty q'.addresses then advanced (addresses_of (set qs w q')) (record { next = next; cycle = cycle }) next else record { next = next; cycle = cycle })) where
    pub killed_state : state_of p core (set qs w q') clock'.next clock'.cycle turns deaths' ≡ edited (state_of p core qs next cycle turns deaths) (edit.KillProcess w i)
    unfolding edited killed
    killed_state =
        let s = state_of p core qs next cycle turns deaths in
        let removed : remove (queue_of s.queues w) i ≡ q'.addresses = ap (λ l. remove l i) queue_at ∙ sym queue_is in
        let queues_are : addresses_of (set qs w q') ≡ set (addresses_of qs) w q'.addresses = addresses-set qs w q' in
        same_left s w q'.addresses (addresses_of (set qs w q')) clock' deaths' queues_are deaths_is (rw queues_are at clock_is)
        ∙ ap (left_of s w) (sym removed)

    pub killed_record : (address : ℕ) (died : Bool) → address ≡ get_or q.addresses i 0 → died ≡ is_empty q'.addresses
        → ◌≡◌ {A = Atom} (record { work = work.KillProcess w i address; cells = record { items = [] }; queued = record { items = [] }; next_before = next; next_after = clock'.next; cycle_added = not (clock'.cycle == cycle); died = died })
        (edit_record (state_of p core qs next cycle turns deaths) (edit.KillProcess w i))
    unfolding edit_record
    killed_record address died address_is died_is =
        atom_is (ap (work.KillProcess w i) (address_is ∙ ap (λ l. get_or l i 0) (sym queue_at))) refl refl refl (ap (λ (s : State). s.next) killed_state)
        (ap (λ (s : State). not (s.cycle == cycle)) killed_state) (died_is ∙ ap is_empty (queue_is ∙ ap (λ l. remove l i) (sym queue_at)))

    pub killed_counted : length deaths + survivors_of (addresses_of qs) ≡ length qs → length deaths' + survivors_of (addresses_of (set qs w q')) ≡ length (set qs w q')
    killed_counted counted =
        rw (deaths_is, addresses-set)
        (counted_after (addresses_of qs) deaths w turns warrior (place_filled (queue_of (addresses_of qs) w) i place) v.deaths q'.addresses (simp length-map counted)
        ∙ simp (length-set, length-map))
