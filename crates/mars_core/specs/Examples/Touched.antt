-- The cells that instructions read and write, in the order in which `touched` lists them, and the marks of a turn.
use Rattle.std.specs.Prelude.{◌≡◌, List, [], ◌∷◌, ◌++◌, false, true, refl}
use Rattle.std.proofs.Common.{replicate}
use Rattle.mars_cell.specs.declared.instruction.Cell.{Cell}
use Rattle.mars_cell.specs.declared.instruction.Op.TheVariants.{Mov, Add}
use Rattle.mars_cell.specs.declared.instruction.Modifier.TheVariants.{Ab, I}
use Rattle.mars_cell.specs.declared.instruction.Mode.TheVariants.{Immediate, Direct, AIndirect, BIndirect, BPredecrement, BPostincrement}
use Rattle.mars_cell.specs.Cells.{empty_cell}
use Rattle.mars_cell.specs.Parameters.{Parameters}
use Rattle.mars_core.specs.Marks.{marks_after}
use Rattle.mars_core.specs.Touched.{touched}
use Rattle.mars_core.specs.Examples.{the_machine, cell_of, numbers, sizes, of_eight, eight, lone}

-- A core of sixteen cells, where reads reach three cells forward and two back, and writes five and four.
abbrev limited : Parameters
limited = sizes 16 8 6 10

-- A core with numbers before and after the instruction, which is at address 2.
abbrev sixteen : Cell → List Cell
sixteen instruction =
    numbers 5 0 ∷ numbers 0 5 ∷ instruction ∷ empty_cell ∷ empty_cell ∷ empty_cell ∷ empty_cell ∷ numbers 0 8 ∷ replicate 8 empty_cell

-- `ADD.AB #4, #5` touches only the instruction.
pub immediate_operands_touch_the_instruction : touched limited (sixteen (cell_of Add Ab Immediate 4 Immediate 5)) 2 ≡ 2 ∷ 2 ∷ 2 ∷ 2 ∷ []
unfolding the_machine
immediate_operands_touch_the_instruction = refl

-- `MOV.I $4, $5` touches what the A-operand reads, what the B-operand reads, and the B-target; it does not touch the
-- cell where the A-operand would write.
pub direct_operands_touch_what_they_copy : touched limited (sixteen (cell_of Mov I Direct 4 Direct 5)) 2 ≡ 2 ∷ 0 ∷ 1 ∷ 7 ∷ []
unfolding the_machine
direct_operands_touch_what_they_copy = refl

-- `MOV.I *4, @5` touches the cells by which each operand is indirect, in reading and writing, and the cells there.
pub indirect_operands_touch_where_they_go : touched limited (sixteen (cell_of Mov I AIndirect 4 BIndirect 5)) 2 ≡ 2 ∷ 0 ∷ 6 ∷ 3 ∷ 1 ∷ 7 ∷ 4 ∷ 5 ∷ []
unfolding the_machine
indirect_operands_touch_where_they_go = refl

-- `MOV.I <1, @1`: the B-operand uses the number that the A-operand decremented.
pub lowered_number_leads_the_b_operand : touched of_eight (eight (cell_of Mov I BPredecrement 1 BIndirect 1 ∷ numbers 0 4 ∷ [])) 0 ≡ 0 ∷ 1 ∷ 1 ∷ 4 ∷ 1 ∷ 1 ∷ 4 ∷ 4 ∷ []
unfolding the_machine
lowered_number_leads_the_b_operand = refl

-- `MOV.I >1, @1`: the A-operand uses the number before it is incremented, and the B-operand the number after.
pub raised_number_leads_the_b_operand : touched of_eight (eight (cell_of Mov I BPostincrement 1 BIndirect 1 ∷ numbers 0 4 ∷ [])) 0 ≡ 0 ∷ 1 ∷ 1 ∷ 5 ∷ 1 ∷ 1 ∷ 6 ∷ 6 ∷ []
unfolding the_machine
raised_number_leads_the_b_operand = refl

-- The turn of `MOV.I <1, $2` executes the cell 0, writes the cells 1 and 2, and also touches the cell 4, which it
-- copies. The marks of the cell 7 remain.
pub marks_are_added : marks_after (lone of_eight (eight (cell_of Mov I BPredecrement 1 Direct 2 ∷ numbers 0 4 ∷ [])) (0 ∷ []))
    (record { executed = replicate 8 false; written = replicate 7 false ++ true ∷ []; touched = replicate 7 false ++ true ∷ [] })
    ≡ record {
      executed = true ∷ replicate 7 false;
      written = false ∷ true ∷ true ∷ replicate 4 false ++ true ∷ [];
      touched = true ∷ true ∷ true ∷ false ∷ true ∷ replicate 2 false ++ true ∷ [];
    }
unfolding the_machine
marks_are_added = refl
