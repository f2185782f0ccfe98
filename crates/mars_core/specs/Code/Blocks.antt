-- The errors of the parts of a block.
use Rattle.std.specs.Prelude.{ℕ, ⊤, List}
use Rattle.mars_cell.specs.Parameters.{Parameters}
use Rattle.mars_core.specs.BlockFaults.{IsFirstWrongCell, IsFirstWrongQueue}
use Rattle.mars_core.specs.Validity.{AreDeaths, IsClock}
use Rattle.mars_core.specs.declared.battle.block.BlockFault.{BlockFault}
use Rattle.mars_core.specs.declared.battle.block.BlockFault.TheVariants as fault
use Rattle.mars_core.specs.declared.deaths.Death.{Death}
use Rattle.mars_core.specs.declared.machine.clock.Clock.{Clock}

-- The error is that of the first wrong cell in `words`, the words of all cells, or out of memory.
abbrev pub IsCellFault : ℕ → List ℕ → BlockFault → Type 0
IsCellFault core_size words (fault.Cell address) = IsFirstWrongCell core_size words address
IsCellFault core_size words fault.OutOfMemory = ⊤
IsCellFault core_size words other = ⊥

-- The error is that of the first wrong queue, or out of memory. `counts` has the lengths, and `words` the addresses.
abbrev pub IsQueueFault : Parameters → List ℕ → List ℕ → BlockFault → Type 0
IsQueueFault p counts words (fault.Queue warrior) = IsFirstWrongQueue p counts words warrior
IsQueueFault p counts words fault.OutOfMemory = ⊤
IsQueueFault p counts words other = ⊥

-- The error is that `deaths` do not fit `queues`, or that `clock` does not fit them after `turns` turns.
abbrev pub IsStateFault : ℕ → List (List ℕ) → Clock → ℕ → List Death → BlockFault → Type 0
IsStateFault cycles queues clock turns deaths fault.Deaths = AreDeaths queues deaths → ⊥
IsStateFault cycles queues clock turns deaths fault.Clock = IsClock cycles queues clock turns → ⊥
IsStateFault cycles queues clock turns deaths other = ⊥
