-- States that are not valid: each breaks the condition that its proof names.
use Rattle.std.specs.Prelude.{◌≡◌, ◌<◌, ◌≤◌, ℕ, List, [], ◌∷◌, take, Some, refl}
use Rattle.std.proofs.Common.{arith, replicate, ap}
use Rattle.std.specs.Option.{unwrap_or}
use Rattle.mars_cell.specs.Cells.{empty_cell}
use Rattle.mars_core.specs.State.{State}
use Rattle.mars_core.specs.Validity.{IsValid, IsQueue}
use Rattle.mars_core.specs.declared.deaths.Death.{Death}
use Rattle.mars_core.specs.Examples.{battle_of, eight, numbers, of_eight}

-- Two warriors, each with a process, in a core of eight cells and before the first turn.
abbrev two : State
two = battle_of of_eight (eight []) ((0 ∷ []) ∷ (4 ∷ []) ∷ [])

-- Two warriors with the processes `one` and `other`.
abbrev with_queues : List ℕ → List ℕ → State
with_queues one other = record two { queues = one ∷ other ∷ [] }

-- The death of a warrior in the first turn.
abbrev death_of : ℕ → Death
death_of warrior = record { warrior = warrior; turns = 1 }

-- Two dead warriors, after `turns` turns, in the second cycle.
abbrev both_dead : ℕ → State
both_dead turns = record (with_queues [] []) { cycle = 1; turns = turns; deaths = death_of 0 ∷ death_of 1 ∷ [] }

-- A parameter is out of its range.
pub no_processes : IsValid (record two { params = record of_eight { processes = 0 } }) → ⊥
no_processes v = omega (arith, v.params.processes_least)

-- ---- The core

pub seven_cells : IsValid (record two { core = take 7 (eight []) }) → ⊥
seven_cells v = let e : 7 ≡ 8 = v.core.size in omega (arith, e)

pub a_number_beyond_the_core : IsValid (record two { core = eight (numbers 8 0 ∷ []) }) → ⊥
a_number_beyond_the_core v = let e : 8 < 8 = (v.core.cells 0 empty_cell (omega arith)).a in omega (arith, e)

pub another_number_beyond_the_core : IsValid (record two { core = eight (numbers 0 8 ∷ []) }) → ⊥
another_number_beyond_the_core v = let e : 8 < 8 = (v.core.cells 0 empty_cell (omega arith)).b in omega (arith, e)

-- ---- The queues

pub a_battle_without_warriors : IsValid (record two { queues = [] }) → ⊥
a_battle_without_warriors v = let e : 1 ≤ 0 = v.some in omega (arith, e)

pub seventeen : IsValid (record two { queues = replicate 17 (0 ∷ []) }) → ⊥
seventeen v = let e : 17 ≤ 16 = v.few in omega (arith, e)

pub a_process_beyond_the_core : IsValid (with_queues (8 ∷ []) (4 ∷ [])) → ⊥
a_process_beyond_the_core v =
    let q : IsQueue 8 8 (8 ∷ []) = v.queues 0 [] (omega arith) in
    let e : 8 < 8 = q.addresses 0 0 (omega arith) in
    omega (arith, e)

pub nine_processes : IsValid (with_queues (replicate 9 0) (4 ∷ [])) → ⊥
nine_processes v =
    let q : IsQueue 8 8 (replicate 9 0) = v.queues 0 [] (omega arith) in
    let e : 9 ≤ 8 = q.room in
    omega (arith, e)

-- ---- The deaths

pub a_living_warrior_that_died : IsValid (record two { deaths = death_of 0 ∷ [] }) → ⊥
a_living_warrior_that_died v = let e : 1 ≡ 0 = v.deaths.once 0 (omega arith) in omega (arith, e)

pub a_dead_warrior_that_did_not_die : IsValid (record (with_queues [] (4 ∷ [])) { next = 1; turns = 1 }) → ⊥
a_dead_warrior_that_did_not_die v = let e : 0 ≡ 1 = v.deaths.once 0 (omega arith) in omega (arith, e)

pub a_warrior_that_died_twice : IsValid (record (with_queues [] (4 ∷ [])) { next = 1; turns = 1; deaths = death_of 0 ∷ death_of 0 ∷ [] }) → ⊥
a_warrior_that_died_twice v = let e : 2 ≡ 1 = v.deaths.once 0 (omega arith) in omega (arith, e)

pub the_death_of_an_absent_warrior : IsValid (record two { deaths = death_of 2 ∷ [] }) → ⊥
the_death_of_an_absent_warrior v = let e : 2 < 2 = v.deaths.known 0 (death_of 2) (omega arith) in omega (arith, e)

-- ---- The clock

pub a_turn_of_an_absent_warrior : IsValid (record two { next = 2 }) → ⊥
a_turn_of_an_absent_warrior v = let e : 2 < 2 = v.clock.next in omega (arith, e)

pub a_turn_of_the_dead : IsValid (record (with_queues [] (4 ∷ [])) { turns = 1; deaths = death_of 0 ∷ [] }) → ⊥
a_turn_of_the_dead v = v.clock.next_lives (omega arith) refl

pub a_cycle_too_many : IsValid (record two { cycle = 11; turns = 20 }) → ⊥
a_cycle_too_many v = let e : 11 ≤ 10 = v.clock.cycle in omega (arith, e)

-- After the last cycle, the first living warrior is next.
pub half_a_cycle_too_many : IsValid (record two { cycle = 10; next = 1; turns = 20 }) → ⊥
half_a_cycle_too_many v =
    let first : Some 0 ≡ Some 1 = v.clock.last_cycle refl (omega arith) in
    let e : 0 ≡ 1 = ap (λ o. unwrap_or o 0) first in
    omega (arith, e)

-- After a complete cycle and one turn of the next, two warriors have executed three turns.
pub a_turn_too_many : IsValid (record two { cycle = 1; next = 1; turns = 4 }) → ⊥
a_turn_too_many v = let e : 4 ≤ 3 = v.clock.turns_alive (omega arith) in omega (arith, e)

-- After a complete cycle and the turn in which the last warrior died, two warriors have executed three turns.
pub a_turn_of_two_dead_too_many : IsValid (both_dead 4) → ⊥
a_turn_of_two_dead_too_many v = let e : 4 ≤ 3 = v.clock.turns in omega (arith, e)
