-- A battle shifted in the core: each cell and each process is `k` cells further. Laws state that this makes no
-- difference to the warriors.
use Rattle.std.specs.Prelude.{ℕ, ◌-◌, List, ◌++◌, map, take, drop}
use Rattle.mars_cell.specs.declared.instruction.Cell.{Cell}
use Rattle.mars_core.specs.State.{State}
use Rattle.mars_core.specs.Addresses.{address_after}

-- A core of `m` cells, shifted by `k` cells: the last `k` cells come first.
abbrev pub moved_core : ℕ → ℕ → List Cell → List Cell
moved_core m k core = drop (m - k) core ++ take (m - k) core

-- The battle `s`, shifted by `k` cells.
abbrev pub moved : ℕ → State → State
moved k s = record s {
  core = moved_core s.params.core_size k s.core;
  queues = map (map (λ address. address_after s.params.core_size address k)) s.queues;
}
