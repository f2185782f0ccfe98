-- What a record makes of a state: `reverted` goes back from the state that it leads to, `applied` goes forth from the
-- state that it leads from. By the laws, the results are the states that the record leads from and to, so no contract
-- of `revert` or `apply` depends on these definitions.
use Rattle.std.specs.Prelude.{ℕ, ◌+◌, ◌-◌, Bool, if◌then◌else◌, List, [], ◌∷◌, ◌++◌, length, take, drop, insert, remove, Option, None, Some, slice_set}
use Rattle.mars_cell.specs.declared.instruction.Cell.{Cell}
use Rattle.mars_core.specs.State.{State, queue_of}
use Rattle.mars_core.specs.Turn.{with_death}
use Rattle.mars_core.specs.declared.record.Atom.{Atom}
use Rattle.mars_core.specs.declared.machine.writes.CellChange.{CellChange}
use Rattle.mars_core.specs.declared.deaths.Death.{Death}
use Rattle.mars_core.specs.declared.record.Work.{Work}
use Rattle.mars_core.specs.declared.record.Work.TheVariants as work

-- The core before the changes: the previous cell of each change is written back, the last change first.
abbrev pub restored : List CellChange → List Cell → List Cell
restored [] core = core
restored (change ∷ changes) core = slice_set (restored changes core) change.address change.before

-- The core after the changes, which are made in order.
abbrev pub rewritten : List CellChange → List Cell → List Cell
rewritten [] core = core
rewritten (change ∷ changes) core = rewritten changes (slice_set core change.address change.after)

-- The list `xs` without its last `n` items.
abbrev pub without_last : {X : Type 0} → ℕ → List X → List X
without_last n xs = take (length xs - n) xs

-- The warrior whose queue the work changes, if there is one.
abbrev pub warrior_of : Work → Option ℕ
warrior_of (work.Turn w address) = Some w
warrior_of work.SetCell = None
warrior_of (work.MoveProcess w i from to) = Some w
warrior_of (work.KillProcess w i address) = Some w
warrior_of (work.Spawn w address) = Some w

-- The queue before the work, from `queue` after it. A turn queued as many addresses as `queued`.
abbrev pub queue_before : Work → ℕ → List ℕ → List ℕ
queue_before (work.Turn w address) queued queue = address ∷ without_last queued queue
queue_before work.SetCell queued queue = queue
queue_before (work.MoveProcess w i from to) queued queue = slice_set queue i from
queue_before (work.KillProcess w i address) queued queue = insert queue i address
queue_before (work.Spawn w address) queued queue = without_last 1 queue

-- The queue after the work, from `queue` before it. A turn queued the addresses `queued`.
abbrev pub queue_after_work : Work → List ℕ → List ℕ → List ℕ
queue_after_work (work.Turn w address) queued queue = drop 1 queue ++ queued
queue_after_work work.SetCell queued queue = queue
queue_after_work (work.MoveProcess w i from to) queued queue = slice_set queue i to
queue_after_work (work.KillProcess w i address) queued queue = remove queue i
queue_after_work (work.Spawn w address) queued queue = queue ++ address ∷ []

-- `queues` after `f` is applied to the queue of the warrior, if there is a warrior.
abbrev pub with_queue : Option ℕ → (List ℕ → List ℕ) → List (List ℕ) → List (List ℕ)
with_queue None f queues = queues
with_queue (Some w) f queues = slice_set queues w (f (queue_of queues w))

-- `deaths`, followed by the death of the warrior after `turns` turns, if there is a warrior and `died`.
abbrev pub deaths_after : Option ℕ → Bool → ℕ → List Death → List Death
deaths_after None died turns deaths = deaths
deaths_after (Some w) died turns deaths = with_death died w turns deaths

-- The number of turns that the work counts as.
abbrev pub turns_of : Work → ℕ
turns_of (work.Turn w address) = 1
turns_of work.SetCell = 0
turns_of (work.MoveProcess w i from to) = 0
turns_of (work.KillProcess w i address) = 0
turns_of (work.Spawn w address) = 0

-- The number of completed cycles that the work added.
abbrev pub cycles_of : Bool → ℕ
cycles_of added = if added then 1 else 0

-- The state before the record, from the state `s` after it.
unfoldable pub reverted : Atom → State → State
reverted atom s = record {
  params = s.params;
  core = restored atom.cells.items s.core;
  queues = with_queue (warrior_of atom.work) (queue_before atom.work (length atom.queued.items)) s.queues;
  next = atom.next_before;
  cycle = s.cycle - cycles_of atom.cycle_added;
  turns = s.turns - turns_of atom.work;
  deaths = if atom.died then without_last 1 s.deaths else s.deaths;
}

-- The state after the record, from the state `s` before it.
unfoldable pub applied : Atom → State → State
applied atom s = record {
  params = s.params;
  core = rewritten atom.cells.items s.core;
  queues = with_queue (warrior_of atom.work) (queue_after_work atom.work atom.queued.items) s.queues;
  next = atom.next_after;
  cycle = s.cycle + cycles_of atom.cycle_added;
  turns = s.turns + turns_of atom.work;
  deaths = deaths_after (warrior_of atom.work) atom.died (s.turns + turns_of atom.work) s.deaths;
}
