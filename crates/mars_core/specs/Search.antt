-- Searches for turns: conditions on the cells that a turn executes, changes or reads, and the turns that meet them.
use Rattle.std.specs.Prelude.{ℕ, zero, suc, ◌+◌, Bool, true, false, ◌&&◌, ◌||◌, not, ◌==◌, nat_le, if◌then◌else◌, List, [], ◌∷◌, ◌++◌, length, drop, take, filter}
use Rattle.std.specs.List.{list_all, list_any, range_with_len}
use Rattle.mars_cell.specs.Cells.{op_index}
use Rattle.mars_core.specs.State.{State, cell_at, queue_of, is_over_of}
use Rattle.mars_core.specs.Touched.{touched_in_turn}
use Rattle.mars_core.specs.Turn.{front_of, turn_of, turn_record}
use Rattle.mars_core.specs.Past.{changes, past_at, pasts_after}
use Rattle.mars_core.specs.declared.machine.writes.CellChange.{CellChange}
use Rattle.mars_core.specs.declared.past.Past.{Past}
use Rattle.mars_core.specs.declared.search.Condition.{Condition}
use Rattle.mars_core.specs.declared.search.Found.{Found}
use Rattle.mars_core.specs.declared.search.Number.{Number}
use Rattle.mars_core.specs.declared.search.Number.TheVariants.{Warrior, Queued, Died, Address, Owner, Turn, Origin, Opcode, NewOpcode}
use Rattle.mars_core.specs.declared.search.Way.{Way}
use Rattle.mars_core.specs.declared.search.Way.TheVariants.{Executes, Changes, Reads}

-- The turn of the state `s` writes the cell at `address`.
abbrev pub writes : State → ℕ → Bool
writes s address = list_any (λ (write : CellChange). write.address == address) (turn_record s).cells.items

-- The turn of the state `s` uses the cell at `address` in the given way. A cell that the turn writes is not read, even
-- if the write changes nothing.
abbrev pub uses : Way → State → ℕ → Bool
uses Executes s address = front_of (queue_of s.queues s.next) == address
uses Changes s address = changes s address
uses Reads s address = list_any (λ touched. touched == address) (touched_in_turn s) && not (writes s address)

-- A number of the turn of the state `s`, or of the cell at `address`, which the turn uses. The owner, the turn, the
-- origin and the opcode of the cell are those before the turn; the new opcode is that after the turn.
abbrev pub number_of : Number → State → List Past → ℕ → ℕ
number_of Warrior s pasts address = s.next
number_of Queued s pasts address = length (turn_record s).queued.items
number_of Died s pasts address = if (turn_record s).died then 1 else 0
number_of Address s pasts address = address
number_of Owner s pasts address = (past_at pasts address).owner
number_of Turn s pasts address = (past_at pasts address).turn
number_of Origin s pasts address = (past_at pasts address).origin
number_of Opcode s pasts address = op_index (cell_at s.core address).op
number_of NewOpcode s pasts address = op_index (cell_at (turn_of s).core address).op

-- `number` is in the range from `first` to `last`, both included. If `last` is less than `first`, the range wraps
-- around: it has the numbers from `first` on and those up to `last`.
abbrev pub is_within : ℕ → ℕ → ℕ → Bool
is_within first last number =
    if nat_le first last then nat_le first number && nat_le number last else nat_le first number || nat_le number last

-- `condition` holds for the cell at `address`, which the turn of the state `s` uses.
abbrev pub holds : State → List Past → ℕ → Condition → Bool
holds s pasts address condition = is_within condition.first condition.last (number_of condition.number s pasts address)

-- The ways are the same.
abbrev pub is_same : Way → Way → Bool
is_same Executes Executes = true
is_same Changes Changes = true
is_same Reads Reads = true
is_same _ _ = false

-- At least one of `conditions` is on `way`, a way of using a cell.
abbrev pub are_on : Way → List Condition → Bool
are_on way conditions = list_any (λ (condition : Condition). is_same way condition.way) conditions

-- Those of `conditions` that are on `way`, a way of using a cell.
abbrev pub on : Way → List Condition → List Condition
on way conditions = filter (λ (condition : Condition). is_same way condition.way) conditions

-- The turn of the state `s` uses a cell in the way `way`, and all of `conditions` on this way hold for it.
abbrev pub one_meets : Way → List Condition → State → List Past → Bool
one_meets way conditions s pasts =
    list_any (λ address. uses way s address && list_all (holds s pasts address) (on way conditions)) (range_with_len 0 s.params.core_size)

-- The turn of the state `s` meets all conditions: for each way on which there are conditions, it uses a cell for which
-- they hold. So all conditions on the same way are about the same cell.
abbrev pub meets : List Condition → State → List Past → Bool
meets conditions s pasts =
    (not (are_on Executes conditions) || one_meets Executes conditions s pasts)
    && (not (are_on Changes conditions) || one_meets Changes conditions s pasts)
    && (not (are_on Reads conditions) || one_meets Reads conditions s pasts)

-- What a search finds of the turn of the state `s`: its number, its warrior, how many processes it queues, the address
-- that it executes, and the past of the cell there before the turn.
abbrev pub found_turn : State → List Past → Found
found_turn s pasts =
    let address = front_of (queue_of s.queues s.next) in
    record {
      turn = s.turns + 1;
      warrior = s.next;
      queued = length (turn_record s).queued.items;
      address = address;
      past = past_at pasts address;
    }

-- The turns among the next `n` that meet all conditions.
abbrev pub found_in : List Condition → ℕ → State → List Past → List Found
found_in conditions zero s pasts = []
found_in conditions (suc n) s pasts =
    if is_over_of s then []
    else (if meets conditions s pasts then found_turn s pasts ∷ [] else []) ++ found_in conditions n (turn_of s) (pasts_after s pasts)

-- `rows`, of which the first are replaced by the items of `found`. Items beyond the number of rows are left out.
abbrev pub filled : {X : Type 0} → List X → List X → List X
filled found rows = take (length rows) found ++ drop (length found) rows
