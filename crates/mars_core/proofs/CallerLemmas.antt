-- Lemmas about turns, edits and records for the crates above, which cannot unfold these definitions.
use Rattle.std.specs.Prelude.{◌≡◌, ℕ, ◌+◌, ◌≤◌, Option, None, Some, refl, List, [], ◌∷◌, remove, slice_set}
use Rattle.std.proofs.Common.{arith, sym, ◌∙◌}
use Rattle.std.proofs.lemmas.List.{length-set}
use Rattle.mars_core.specs.State.{State, moved_clock, live_from, advanced, queue_of}
use Rattle.mars_core.specs.Turn.{executed, turn_of}
use Rattle.mars_core.specs.Edit.{left_of, killed, edited}
use Rattle.mars_core.specs.Leads.{Leads}
use Rattle.mars_core.specs.Record.{turns_of, applied}
use Rattle.mars_core.specs.Shape.{SameShape}
use Rattle.mars_core.specs.declared.record.Atom.{Atom}
use Rattle.mars_core.specs.declared.battle.edit.Edit.{Edit}
use Rattle.mars_core.specs.declared.battle.edit.Edit.TheVariants as edit
use Rattle.mars_core.specs.declared.machine.clock.Clock.{Clock}
-- Turns and edits of a valid state are valid, and a record determines the states that it leads from and to.
pub use Rattle.mars_core.proofs.Edits.{edit_valid}
pub use Rattle.mars_core.proofs.Restored.{record_reverted}
pub use Rattle.mars_core.proofs.Rewritten.{record_applied}
pub use Rattle.mars_core.proofs.Turns.{turn_valid}

-- The number `after` is `before` or one more.
abbrev pub OneMore : ℕ → ℕ → Type 0
OneMore before after = (before ≤ after) × (after ≤ before + 1)

moved_cycle : (clock : Clock) (o z : Option ℕ) → OneMore clock.cycle (moved_clock clock o z).cycle
moved_cycle clock (Some k) z = (omega arith, omega arith)
moved_cycle clock None (Some k) = (omega arith, omega arith)
moved_cycle clock None None = (omega arith, omega arith)

advanced_cycle : (queues : List (List ℕ)) (clock : Clock) (i : ℕ) → OneMore clock.cycle (advanced queues clock i).cycle
unfolding advanced
advanced_cycle queues clock i = moved_cycle clock (live_from queues i) (live_from queues 0)

-- A turn increases the number of turns by one.
pub turns-turn_of : (s : State) → (turn_of s).turns ≡ s.turns + 1
unfolding turn_of executed
turns-turn_of s = refl

pub cycle-turn_of : (s : State) → OneMore s.cycle (turn_of s).cycle
unfolding turn_of executed
cycle-turn_of s = advanced_cycle (executed s).queues (record { next = s.next; cycle = s.cycle }) (s.next + 1)

-- A turn changes neither the parameters nor the number of warriors.
pub shape-turn_of : (s : State) → SameShape (turn_of s) s
unfolding turn_of executed
shape-turn_of s = record { params = refl; warriors = length-set s.queues s.next _ }

-- The turns, the cycle and the shape of the state after a warrior was left with the queue `q`.
turns-left_of : (s : State) (w : ℕ) (q : List ℕ) → (left_of s w q).turns ≡ s.turns
turns-left_of s w [] = refl
turns-left_of s w (x ∷ q) = refl

cycle-left_of : (s : State) (w : ℕ) (q : List ℕ) → OneMore s.cycle (left_of s w q).cycle
cycle-left_of s w [] = advanced_cycle (slice_set s.queues w []) (record { next = s.next; cycle = s.cycle }) s.next
cycle-left_of s w (x ∷ q) = (omega arith, omega arith)

shape-left_of : (s : State) (w : ℕ) (q : List ℕ) → SameShape (left_of s w q) s
shape-left_of s w [] = record { params = refl; warriors = length-set s.queues w _ }
shape-left_of s w (x ∷ q) = record { params = refl; warriors = length-set s.queues w _ }

-- An edit does not change the number of turns.
pub turns-edited : (s : State) (e : Edit) → (edited s e).turns ≡ s.turns
unfolding edited killed
turns-edited s (edit.SetCell a c) = refl
turns-edited s (edit.MoveProcess w i a) = refl
turns-edited s (edit.KillProcess w i) = turns-left_of s w (remove (queue_of s.queues w) i)
turns-edited s (edit.Spawn w a) = refl

pub cycle-edited : (s : State) (e : Edit) → OneMore s.cycle (edited s e).cycle
unfolding edited killed
cycle-edited s (edit.SetCell a c) = (omega arith, omega arith)
cycle-edited s (edit.MoveProcess w i a) = (omega arith, omega arith)
cycle-edited s (edit.KillProcess w i) = cycle-left_of s w (remove (queue_of s.queues w) i)
cycle-edited s (edit.Spawn w a) = (omega arith, omega arith)

-- An edit changes neither the parameters nor the number of warriors.
pub shape-edited : (s : State) (e : Edit) → SameShape (edited s e) s
unfolding edited killed
shape-edited s (edit.SetCell a c) = record { params = refl; warriors = refl }
shape-edited s (edit.MoveProcess w i a) = record { params = refl; warriors = length-set s.queues w _ }
shape-edited s (edit.KillProcess w i) = shape-left_of s w (remove (queue_of s.queues w) i)
shape-edited s (edit.Spawn w a) = record { params = refl; warriors = length-set s.queues w _ }

-- Applying a record adds its turns.
pub turns-applied : (atom : Atom) (s : State) → (applied atom s).turns ≡ s.turns + turns_of atom.work
unfolding applied
turns-applied atom s = refl

-- A record leads to a given state from only one state.
pub record_determines_predecessor : (s t : State) (atom : Atom) (here : State) → Leads s atom here → Leads t atom here → s ≡ t
record_determines_predecessor s t atom here first second = sym (record_reverted s atom here first) ∙ record_reverted t atom here second

-- A record leads from a given state to only one state.
pub record_determines_successor : (s t : State) (atom : Atom) (here : State) → Leads here atom s → Leads here atom t → s ≡ t
record_determines_successor s t atom here first second = sym (record_applied here atom s first) ∙ record_applied here atom t second
