-- What each warrior does in a battle. The turns of a battle are given by the states in which they begin.
use Rattle.std.specs.Prelude.{ℕ, zero, suc, ◌+◌, ◌*◌, ◌==◌, Bool, if◌then◌else◌, List, [], ◌∷◌, length, count_by, filter}
use Rattle.std.specs.List.{list_any}
use Rattle.mars_core.specs.State.{State, is_over_of, queue_of}
use Rattle.mars_core.specs.Touched.{touched_in_turn}
use Rattle.mars_core.specs.Turn.{front_of, turn_of, turn_record}
use Rattle.mars_core.specs.declared.machine.writes.CellChange.{CellChange}
use Rattle.mars_match.specs.declared.counts.Counts.{Counts}

-- The next `n` turns from the state `s` on, or all that remain if they are fewer.
abbrev pub turns_from : ℕ → State → List State
turns_from zero s = []
turns_from (suc n) s = if is_over_of s then [] else s ∷ turns_from n (turn_of s)

-- All turns from the state `s` on. A battle has at most one turn for each warrior and cycle.
unfoldable pub turns_to_end : State → List State
turns_to_end s = turns_from (s.params.cycles * length s.queues) s

-- The turns of the warrior at `place` in the order of turns.
abbrev pub turns_at : ℕ → List State → List State
turns_at place turns = filter (λ t. t.next == place) turns

-- Whether the turn from the state `t` queues two processes.
abbrev pub splits : State → Bool
splits t = length (turn_record t).queued.items == 2

-- Whether the turn from the state `t` executes the cell at address `a`.
abbrev pub executes : ℕ → State → Bool
executes a t = front_of (queue_of t.queues t.next) == a

-- Whether the turn from the state `t` writes the cell at address `a`.
abbrev pub writes : ℕ → State → Bool
writes a t = list_any (λ (change : CellChange). change.address == a) (turn_record t).cells.items

-- Whether the turn from the state `t` executes, reads or writes the cell at address `a`.
abbrev pub touches : ℕ → State → Bool
touches a t = list_any (λ b. b == a) (touched_in_turn t)

-- The number of addresses below `m` that pass `test`.
abbrev pub how_many_below : ℕ → (ℕ → Bool) → ℕ
how_many_below zero test = 0
how_many_below (suc m) test = how_many_below m test + (if test m then 1 else 0)

-- What the warrior at `place` in the order of turns does from the state `s` to the end of the battle.
unfoldable pub counts_of : State → ℕ → Counts
counts_of s place =
    let own = turns_at place (turns_to_end s) in
    let m = s.params.core_size in
    record {
      turns = length own;
      spawned = count_by splits own;
      executed = how_many_below m (λ a. list_any (executes a) own);
      written = how_many_below m (λ a. list_any (writes a) own);
      touched = how_many_below m (λ a. list_any (touches a) own);
    }
