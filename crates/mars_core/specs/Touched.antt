-- The cells that an execution reads or writes, among all cells that the limits let it reach.
use Rattle.std.specs.Prelude.{ℕ, List, [], ◌∷◌, ◌++◌}
use Rattle.mars_cell.specs.declared.instruction.Cell.{Cell}
use Rattle.mars_cell.specs.declared.instruction.Mode.{Mode}
use Rattle.mars_cell.specs.declared.instruction.Mode.TheVariants.{Immediate, Direct}
use Rattle.mars_cell.specs.Parameters.{Parameters}
use Rattle.mars_core.specs.State.{State, cell_at, queue_of}
use Rattle.mars_core.specs.Addresses.{address_after, fold}
use Rattle.mars_core.specs.Operand.{pointed_address, evaluated}
use Rattle.mars_core.specs.Turn.{front_of}

-- The addresses to which the number `n` of the instruction at `pc` leads for reading and writing if `mode` is indirect,
-- else none. The same field of both cells is read, and in the second cell it may be decremented or incremented.
abbrev pub pointed_addresses : Parameters → ℕ → Mode → ℕ → List ℕ
pointed_addresses p pc Immediate n = []
pointed_addresses p pc Direct n = []
pointed_addresses p pc mode n = address_after p.core_size pc (fold p.core_size p.read_limit n) ∷ pointed_address p pc n ∷ []

-- The addresses of the cells that the execution of the instruction at `pc` reads or writes: the instruction itself; for
-- each operand the cells by which it is indirect and the cell that is copied; and the B-target. All these cells are
-- listed, even if the opcode does not use the copies or writes nothing.
unfoldable pub touched : Parameters → List Cell → ℕ → List ℕ
touched p core pc =
    let m = p.core_size in
    let instruction = cell_at core pc in
    let a = evaluated p (record { core = core; changes = [] }) pc instruction.a_mode instruction.a in
    let b = evaluated p a.written pc instruction.b_mode instruction.b in
    pc ∷ pointed_addresses p pc instruction.a_mode instruction.a
    ++ address_after m pc a.operand.read ∷ pointed_addresses p pc instruction.b_mode instruction.b
    ++ address_after m pc b.operand.read ∷ address_after m pc b.operand.write ∷ []

-- The addresses of the cells that the next turn reads or writes.
abbrev pub touched_in_turn : State → List ℕ
touched_in_turn s = touched s.params s.core (front_of (queue_of s.queues s.next))
