-- Where a process comes from: the turns in which it and its ancestors were born. A turn removes the process at the
-- front of a queue and queues up to two: first the same process, which continues, then a process that is born in the
-- turn.
use Rattle.std.specs.Prelude.{ℕ, zero, suc, ◌+◌, ◌<◌, ◌==◌, nat_lt, if◌then◌else◌, List, [], ◌∷◌, ◌++◌, length, drop}
use Rattle.mars_core.specs.State.{State, queue_of, is_over_of}
use Rattle.mars_core.specs.Turn.{after_turns, turn_of}

-- The lineage of a process, traced back to a state. `births` are the turns in which the process and its ancestors were
-- born, its own birth first. `place` is the place in the queue, in that state and counted from 0, of the process with
-- which the lineage begins.
pub record Lineage : Type 0 where
  pub births : List ℕ
  pub place : ℕ

-- The lineage from before a turn of the warrior on, given the lineage `later` from after the turn on. `turn` is the
-- number of the turn, and `waiting` the number of processes in the queue besides the executed one. The waiting
-- processes move up by a place, and the processes that the turn queues come after them.
abbrev pub traced : ℕ → ℕ → Lineage → Lineage
traced turn waiting later =
    if nat_lt later.place waiting then record { births = later.births; place = later.place + 1 }
    else if later.place == waiting then record { births = later.births; place = 0 }
    else record { births = later.births ++ turn ∷ []; place = 0 }

-- The lineage of a process of `warrior` from the state `s` on, given its lineage `later` from after the next turn on.
abbrev pub traced_in_turn : State → ℕ → Lineage → Lineage
traced_in_turn s warrior later =
    if s.next == warrior then traced (s.turns + 1) (length (drop 1 (queue_of s.queues warrior))) later else later

-- The lineage from the state `s` on of the process at `place` in the queue of `warrior` after `n` turns, or at the end
-- of the battle if fewer turns are left.
abbrev pub lineage : ℕ → State → ℕ → ℕ → Lineage
lineage zero s warrior place = record { births = []; place = place }
lineage (suc n) s warrior place =
    if is_over_of s then record { births = []; place = place } else traced_in_turn s warrior (lineage n (turn_of s) warrior place)

-- After `n` turns from the state `s` on, or at the end of the battle, `warrior` has a process at `place` in its queue.
abbrev pub HasProcess : ℕ → State → ℕ → ℕ → Type 0
HasProcess n s warrior place = place < length (queue_of (after_turns n s).queues warrior)
