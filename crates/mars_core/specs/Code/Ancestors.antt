-- What the code keeps of the turns of a warrior, to trace its processes back.
use Rattle.std.specs.Prelude.{ℕ, zero, suc, ◌+◌, ◌==◌, if◌then◌else◌, List, [], ◌∷◌, ◌++◌, length, drop}
use Rattle.mars_core.specs.Ancestors.{Lineage, traced}
use Rattle.mars_core.specs.State.{State, queue_of, is_over_of}
use Rattle.mars_core.specs.Turn.{turn_of}
use Rattle.mars_core.specs.declared.battle.ancestors.OwnTurn.{OwnTurn}

-- What the code keeps of the next turn of the state `s`, which is a turn of `warrior`.
abbrev pub own_turn : State → ℕ → OwnTurn
own_turn s warrior = record { turn = s.turns + 1; waiting = length (drop 1 (queue_of s.queues warrior)) }

-- What the code keeps of the turns of `warrior` among the next `n`, or among all that are left if there are fewer.
abbrev pub own_turns : ℕ → State → ℕ → List OwnTurn
own_turns zero s warrior = []
own_turns (suc n) s warrior =
    if is_over_of s then [] else (if s.next == warrior then own_turn s warrior ∷ [] else []) ++ own_turns n (turn_of s) warrior

-- The lineage from before the given turns on, given the lineage `later` from after these turns on.
abbrev pub traced_back : List OwnTurn → Lineage → Lineage
traced_back [] later = later
traced_back (own ∷ turns) later = traced own.turn own.waiting (traced_back turns later)
