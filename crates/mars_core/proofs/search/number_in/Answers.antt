use Rattle.std.proofs.Common.{◌≡◌, ap, ◌∙◌}
use Rattle.mars_cell.specs.Cells.{op_index}
use Rattle.mars_cell.specs.declared.instruction.Cell.{Cell}
use Rattle.mars_core.specs.State.{cell_at}
use Rattle.mars_core.specs.Turn.{turn_record}
use Rattle.mars_core.specs.declared.record.Atom.{Atom}
use Rattle.mars_core.proofs.Searches.{seen_before}
use Rattle.mars_core.proofs.search.number_in.Goals as goal

pub returns-in-Warrior : goal.returns-in-Warrior
unfolding turn_record
returns-in-Warrior c = λ s seen. rw c.in-Warrior.is (ap (λ (a : Atom). a.next_before) seen.atom_is)

pub returns-in-Opcode : goal.returns-in-Opcode
returns-in-Opcode c = λ s seen.
    let before : c.cell_before.result ≡ cell_at s.core c.args.address = rw (← seen_before s _ _ seen, ← c.as_slice.ensures.value) c.cell_before.ensures in
    rw c.in-Opcode.is (c.opcode.ensures ∙ ap (λ (cell : Cell). op_index cell.op) before)
