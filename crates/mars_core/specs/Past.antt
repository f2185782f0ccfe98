-- The past of each cell: the warrior and the turn that changed it last, and the origin of its instruction.
use Rattle.std.specs.Prelude.{ℕ, zero, suc, ◌+◌, Bool, false, not, ◌==◌, if◌then◌else◌, List, [], length, map, Option, None, Some, slice_index_or}
use Rattle.std.specs.List.{range_with_len}
use Rattle.mars_cell.specs.declared.instruction.Cell.{Cell}
use Rattle.mars_cell.specs.declared.instruction.Modifier.{Modifier}
use Rattle.mars_cell.specs.declared.instruction.Op.{Op}
use Rattle.mars_cell.specs.declared.instruction.Op.TheVariants.{Mov}
use Rattle.mars_cell.specs.Parameters.{Parameters}
use Rattle.mars_core.specs.State.{State, cell_at, queue_of, is_over_of}
use Rattle.mars_core.specs.Addresses.{address_after}
use Rattle.mars_core.specs.Operand.{evaluated}
use Rattle.mars_core.specs.Effect.{are_equal_cells, takes_whole_cells}
use Rattle.mars_core.specs.Turn.{front_of, turn_of}
use Rattle.mars_core.specs.declared.machine.copy.CellCopy.{CellCopy}
use Rattle.mars_core.specs.declared.past.Past.{Past}

-- The past of the cell at `address`.
abbrev pub past_at : List Past → ℕ → Past
past_at pasts address = slice_index_or pasts address (record { owner = 0; turn = 0; origin = 0 })

-- The next turn of `s` changes the cell at `address`: a different cell is there afterwards. Several writes are one
-- change, and writes that leave an equal cell are none.
abbrev pub changes : State → ℕ → Bool
changes s address = not (are_equal_cells (cell_at s.core address) (cell_at (turn_of s).core address))

-- The instruction is MOV.I, which writes a copy of a whole cell. Every other instruction keeps the opcode, the modifier
-- and the modes of the cells that it writes.
abbrev pub copies : Op → Modifier → Bool
copies Mov modifier = takes_whole_cells modifier
copies _ modifier = false

-- The copy that the execution of the instruction at `pc` makes, if it makes one: from where its A-operand reads to
-- where its B-operand writes.
unfoldable pub copy_by : Parameters → List Cell → ℕ → Option CellCopy
copy_by p core pc =
    let instruction = cell_at core pc in
    let a = evaluated p (record { core = core; changes = [] }) pc instruction.a_mode instruction.a in
    let b = evaluated p a.written pc instruction.b_mode instruction.b in
    if copies instruction.op instruction.modifier
    then Some (record { from = address_after p.core_size pc a.operand.read; to = address_after p.core_size pc b.operand.write })
    else None

-- The copy that the next turn makes, if it makes one.
abbrev pub copy_in_turn : State → Option CellCopy
copy_in_turn s = copy_by s.params s.core (front_of (queue_of s.queues s.next))

-- From where the cell at `address` comes: the address of the copied cell if the copy writes there, else `address`.
abbrev pub comes_from : Option CellCopy → ℕ → ℕ
comes_from None address = address
comes_from (Some copy) address = if copy.to == address then copy.from else address

-- The past of the cell at `address` after the next turn of `s`. If the turn changes the cell, its warrior becomes the
-- owner. If the turn copies a cell to `address`, the origin is that of the copied cell.
abbrev pub past_after : State → List Past → ℕ → Past
past_after s pasts address =
    let before = past_at pasts address in
    record {
      owner = if changes s address then s.next else before.owner;
      turn = if changes s address then s.turns + 1 else before.turn;
      origin = (past_at pasts (comes_from (copy_in_turn s) address)).origin;
    }

-- The past of each cell after the next turn.
unfoldable pub pasts_after : State → List Past → List Past
pasts_after s pasts = map (past_after s pasts) (range_with_len 0 (length pasts))

-- The past of each cell after `n` turns, or at the end of the battle if there are fewer.
abbrev pub followed : ℕ → State → List Past → List Past
followed zero s pasts = pasts
followed (suc n) s pasts = if is_over_of s then pasts else followed n (turn_of s) (pasts_after s pasts)
