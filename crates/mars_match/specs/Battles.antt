-- The battle of a round, and its survivors. Parameters: `p` are the parameters of the battle, `warriors` the warriors in
-- load order, `starts` the addresses of their first cells, and `k` the number of the round, from 0.
use Rattle.std.specs.Prelude.{ℕ, ◌-◌, ◌*◌, ◌%◌, Bool, not, ◌==◌, nat_lt, if◌then◌else◌, List, ◌++◌, length, map, take, drop, Option, None, Some, Result, Ok, Err}
use Rattle.mars_core.specs.Limits.{max_warriors}
use Rattle.mars_cell.specs.Parameters.{Parameters}
use Rattle.mars_cell.specs.Warriors.{WarriorValue}
use Rattle.mars_core.specs.State.{State, is_empty}
use Rattle.mars_core.specs.Start.{start_state, start_fault}
use Rattle.mars_core.specs.Turn.{after_turns}
use Rattle.mars_core.specs.declared.battle.start.BattleFault.{BattleFault}
use Rattle.mars_core.specs.declared.battle.start.BattleFault.TheVariants.{NoWarrior, TooMany}
use Rattle.mars_match.specs.declared.fault.MatchFault.{MatchFault}
use Rattle.mars_match.specs.declared.fault.MatchFault.TheVariants as fault

-- The list from item `n` on, followed by the items before it.
abbrev pub rotated : {X : Type 0} → ℕ → List X → List X
rotated n xs = drop n xs ++ take n xs

-- The battle `s` when it is over. It has at most one turn for each warrior and cycle.
unfoldable pub end_of : State → State
end_of s = after_turns (s.params.cycles * length s.queues) s

-- Whether each warrior is alive, in the order of turns.
abbrev pub lives : State → List Bool
lives s = map (λ queue. not (is_empty queue)) s.queues

-- The start of round `k`: warrior `k % w` has the first turn, and the others follow in load order, each at its own start.
abbrev pub round_start : Parameters → List WarriorValue → List ℕ → ℕ → State
round_start p warriors starts k = let first = k % length warriors in start_state p (rotated first warriors) (rotated first starts)

-- Whether each warrior is alive, in load order, if warrior `first` has the first turn.
abbrev pub in_load_order : ℕ → State → List Bool
in_load_order first s = rotated (length s.queues - first) (lives s)

-- Whether each warrior survives round `k`, in load order.
unfoldable pub survivors_of_round : Parameters → List WarriorValue → List ℕ → ℕ → List Bool
survivors_of_round p warriors starts k = in_load_order (k % length warriors) (end_of (round_start p warriors starts k))

-- The first error of starting round `k`, if there is one.
abbrev pub round_fault : Parameters → List WarriorValue → List ℕ → ℕ → Option BattleFault
round_fault p warriors starts k = let first = k % length warriors in start_fault p (rotated first warriors) (rotated first starts)

-- The error of a battle of `count` warriors, if there are none or too many.
abbrev pub count_fault : ℕ → Option BattleFault
count_fault count = if count == 0 then Some NoWarrior else if nat_lt max_warriors count then Some TooMany else None

-- The value `value`, unless there is an error.
abbrev pub unless : {A : Type 0} → Option BattleFault → A → Result A MatchFault
unless None value = Ok value
unless (Some f) value = Err (fault.Battle f)

-- The start of round `k`, or the error.
abbrev pub started : Parameters → List WarriorValue → List ℕ → ℕ → Result State MatchFault
started p warriors starts k = unless (round_fault p warriors starts k) (round_start p warriors starts k)

-- Whether each warrior survives round `k`, in load order, or the error of starting the round.
abbrev pub fought : Parameters → List WarriorValue → List ℕ → ℕ → Result (List Bool) MatchFault
fought p warriors starts k = unless (round_fault p warriors starts k) (survivors_of_round p warriors starts k)
