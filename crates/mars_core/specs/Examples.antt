-- Examples, as theorems: the check computes what the definitions result in. This file has the terms of the examples.
pub mod Edits
pub mod Apart
pub mod Reach
pub mod Touched
pub mod Pasts
pub mod Searches
pub mod Moments
pub mod Ancestors
pub mod Ends
pub mod Validity
pub mod BlockFaults
pub mod Starts
pub mod Turns
pub mod ReferenceCode
use Rattle.std.specs.Prelude.{⊤, ◌≡◌, ℕ, List, [], ◌∷◌, ◌++◌, take}
use Rattle.std.proofs.Common.{replicate}
use Rattle.mars_cell.specs.declared.instruction.Cell.{Cell}
use Rattle.mars_cell.specs.declared.instruction.Op.{Op}
use Rattle.mars_cell.specs.declared.instruction.Op.TheVariants.{Dat, Mov}
use Rattle.mars_cell.specs.declared.instruction.Modifier.{Modifier}
use Rattle.mars_cell.specs.declared.instruction.Modifier.TheVariants.{F, I}
use Rattle.mars_cell.specs.declared.instruction.Mode.{Mode}
use Rattle.mars_cell.specs.declared.instruction.Mode.TheVariants.{Direct}
use Rattle.mars_cell.specs.Cells.{empty_cell}
use Rattle.mars_cell.specs.Parameters.{Parameters}
use Rattle.mars_core.specs.State.{State, ends, advanced}
use Rattle.mars_core.specs.Addresses.{address_after, fold, raised, lowered}
use Rattle.mars_core.specs.Writes.{write_cell, write_field}
use Rattle.mars_core.specs.Operand.{evaluated, direct_operand, indirect_operand, predecremented, postincremented}
use Rattle.mars_core.specs.Effect.{effect_of, division, are_equal}
use Rattle.mars_core.specs.Turn.{turn_of, turn_record, executed, accepted, execution_of}
use Rattle.mars_core.specs.Touched.{touched}
use Rattle.mars_core.specs.Edit.{edited, edit_fault, edit_record, killed}
use Rattle.mars_core.specs.Record.{reverted, applied}
use Rattle.mars_core.specs.Start.{overlap, start_state}
use Rattle.mars_core.specs.declared.machine.writes.CellChange.{CellChange}
use Rattle.mars_core.specs.declared.battle.edit.Edit.{Edit}

-- The definitions that an example unfolds to compute a turn.
unfoldable pub the_machine : ⊤
unfolding turn_of turn_record executed accepted execution_of touched evaluated predecremented postincremented indirect_operand direct_operand write_field effect_of division are_equal address_after fold raised lowered write_cell ends advanced edited edit_fault edit_record killed reverted applied overlap start_state
the_machine = tt

-- A cell, with the arguments in the order of its text.
abbrev pub cell_of : Op → Modifier → Mode → ℕ → Mode → ℕ → Cell
cell_of op modifier a_mode a b_mode b = record { op = op; modifier = modifier; a_mode = a_mode; a = a; b_mode = b_mode; b = b }

-- The cell `DAT.F $a, $b`.
abbrev pub numbers : ℕ → ℕ → Cell
numbers a b = cell_of Dat F Direct a Direct b

-- The imp, `MOV.I $0, $1`, which copies itself.
abbrev pub imp : Cell
imp = cell_of Mov I Direct 0 Direct 1

-- Parameters with a core size, a process limit, a read limit and a write limit.
abbrev pub sizes : ℕ → ℕ → ℕ → ℕ → Parameters
sizes m p r w = record { core_size = m; processes = p; cycles = 10; read_limit = r; write_limit = w; max_length = 3; distance = 3 }

-- A core of eight cells and a process limit of eight, with limits under which nothing is folded.
abbrev pub of_eight : Parameters
of_eight = sizes 8 8 8 8

-- A core of eight cells that begins with `cells`.
abbrev pub eight : List Cell → List Cell
eight cells = take 8 (cells ++ replicate 8 empty_cell)

-- A battle at its start, with the given processes of each warrior.
abbrev pub battle_of : Parameters → List Cell → List (List ℕ) → State
battle_of p core queues = record { params = p; core = core; queues = queues; next = 0; cycle = 0; turns = 0; deaths = [] }

-- A battle of a single warrior at its start.
abbrev pub lone : Parameters → List Cell → List ℕ → State
lone p core queue = battle_of p core (queue ∷ [])

-- A battle of a single warrior after a turn that the warrior survived.
abbrev pub lone_after : Parameters → List Cell → List ℕ → State
lone_after p core queue = record (lone p core queue) { cycle = 1; turns = 1 }

-- A battle of a single warrior after a turn in which the warrior died.
abbrev pub lone_dead : Parameters → List Cell → State
lone_dead p core = record (lone p core []) { turns = 1; deaths = record { warrior = 0; turns = 1 } ∷ [] }

-- One write of a cell.
abbrev pub change : ℕ → Cell → Cell → CellChange
change address before after = record { address = address; before = before; after = after }

-- The turn of `s` results in `t`, makes `writes` and queues `addresses`; its record leads from `s` to `t` and back.
pub record IsTurn (s t : State) (writes : List CellChange) (addresses : List ℕ) : Type 0 where
  pub state : turn_of s ≡ t
  pub changes : (turn_record s).cells.items ≡ writes
  pub queued : (turn_record s).queued.items ≡ addresses
  pub back : reverted (turn_record s) t ≡ s
  pub forth : applied (turn_record s) s ≡ t

-- The edit `e` of `s` results in `t`; its record leads from `s` to `t` and back.
pub record IsEdit (s : State) (e : Edit) (t : State) : Type 0 where
  pub state : edited s e ≡ t
  pub back : reverted (edit_record s e) t ≡ s
  pub forth : applied (edit_record s e) s ≡ t
