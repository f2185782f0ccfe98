-- How a battle starts: warriors are loaded into a core of `DAT.F $0, $0` (sections 4 and 5 of the ICWS'94 draft), and
-- the errors for which it cannot start.
use Rattle.std.specs.Prelude.{ℕ, zero, suc, ◌+◌, ◌%◌, Bool, true, false, ◌&&◌, ◌||◌, not, ◌==◌, nat_lt, if◌then◌else◌, List, [], ◌∷◌, ◌++◌, length, map, Option, None, Some, slice_set, replicate}
use Rattle.std.specs.List.{list_all, list_any}
use Rattle.mars_cell.specs.declared.instruction.Cell.{Cell}
use Rattle.mars_cell.specs.Cells.{empty_cell}
use Rattle.mars_cell.specs.Parameters.{Parameters}
use Rattle.mars_cell.specs.Warriors.{WarriorValue}
use Rattle.mars_core.specs.Limits.{max_warriors}
use Rattle.mars_core.specs.State.{State}
use Rattle.mars_core.specs.declared.battle.start.BattleFault.{BattleFault}
use Rattle.mars_core.specs.declared.battle.start.BattleFault.TheVariants.{NoWarrior, TooMany, Overlap, StartOutside, FieldOutside}

-- The addresses of `n` adjacent cells in a core of `m` cells, beginning at `s`.
abbrev pub addresses_from : ℕ → ℕ → ℕ → List ℕ
addresses_from m s zero = []
addresses_from m s (suc n) = (s % m) ∷ addresses_from m (s + 1) n

-- The address of each cell of each warrior, loaded at its starting position in `starts`, in a core of `m` cells.
abbrev pub loaded_addresses : ℕ → List WarriorValue → List ℕ → List ℕ
loaded_addresses m [] starts = []
loaded_addresses m (w ∷ warriors) [] = []
loaded_addresses m (w ∷ warriors) (s ∷ starts) = addresses_from m s (length w.cells) ++ loaded_addresses m warriors starts

-- The address `x` is in the list `xs`.
abbrev pub is_in : List ℕ → ℕ → Bool
is_in xs x = list_any (λ y. x == y) xs

-- An address occurs twice in the list.
abbrev pub has_duplicate : List ℕ → Bool
has_duplicate [] = false
has_duplicate (x ∷ xs) = is_in xs x || has_duplicate xs

-- Two loaded cells have the same address.
unfoldable pub overlap : ℕ → List WarriorValue → List ℕ → Bool
overlap m warriors starts = has_duplicate (loaded_addresses m warriors starts)

-- Both numbers of the cell are addresses in a core of `m` cells.
abbrev pub is_inside : ℕ → Cell → Bool
is_inside m cell = nat_lt cell.a m && nat_lt cell.b m

-- All numbers of all cells of the warriors are addresses in a core of `m` cells.
abbrev pub fields_inside : ℕ → List WarriorValue → Bool
fields_inside m [] = true
fields_inside m (w ∷ warriors) = list_all (is_inside m) w.cells && fields_inside m warriors

-- The first error for which the battle cannot start, if there is one.
abbrev pub start_fault : Parameters → List WarriorValue → List ℕ → Option BattleFault
start_fault p warriors starts =
    if length warriors == 0 then Some NoWarrior
    else if nat_lt max_warriors (length warriors) then Some TooMany
    else if overlap p.core_size warriors starts then Some Overlap
    else if not (list_all (λ s. nat_lt s p.core_size) starts) then Some StartOutside
    else if not (fields_inside p.core_size warriors) then Some FieldOutside
    else None

-- `core`, a core of `m` cells, with the cells of a warrior loaded from `address` on, modulo `m`.
abbrev pub with_warrior : ℕ → ℕ → List Cell → List Cell → List Cell
with_warrior m address [] core = core
with_warrior m address (cell ∷ cells) core = with_warrior m (address + 1) cells (slice_set core (address % m) cell)

-- `core`, a core of `m` cells, with each warrior loaded at its starting position.
abbrev pub with_warriors : ℕ → List WarriorValue → List ℕ → List Cell → List Cell
with_warriors m [] starts core = core
with_warriors m (w ∷ warriors) [] core = core
with_warriors m (w ∷ warriors) (s ∷ starts) core = with_warriors m warriors starts (with_warrior m s w.cells core)

-- The address of the first process of each warrior.
abbrev pub first_processes : ℕ → List WarriorValue → List ℕ → List ℕ
first_processes m [] starts = []
first_processes m (w ∷ warriors) [] = []
first_processes m (w ∷ warriors) (s ∷ starts) = ((s + w.start) % m) ∷ first_processes m warriors starts

-- The state at the start of a battle.
unfoldable pub start_state : Parameters → List WarriorValue → List ℕ → State
start_state p warriors starts = record {
  params = p;
  core = with_warriors p.core_size warriors starts (replicate p.core_size empty_cell);
  queues = map (λ address. address ∷ []) (first_processes p.core_size warriors starts);
  next = 0;
  cycle = 0;
  turns = 0;
  deaths = [];
}
