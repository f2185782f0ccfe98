-- Examples: numbers and cells as texts, what is read as a number, a word or a cell, and the default modifiers.
use Rattle.std.specs.Prelude.{◌≡◌, ℕ, pos, neg_ℤ, None, Some, codes, refl}
use Rattle.std.specs.Fmt.{digits}
use Rattle.mars_cell.specs.declared.instruction.Cell.{Cell}
use Rattle.mars_cell.specs.declared.instruction.Op.{Op}
use Rattle.mars_cell.specs.declared.instruction.Op.TheVariants as op
use Rattle.mars_cell.specs.declared.instruction.Modifier.{Modifier}
use Rattle.mars_cell.specs.declared.instruction.Modifier.TheVariants as modifier
use Rattle.mars_cell.specs.declared.instruction.Mode.{Mode}
use Rattle.mars_cell.specs.declared.instruction.Mode.TheVariants.{Immediate, Direct, AIndirect, BIndirect, APredecrement, BPredecrement, APostincrement, BPostincrement}
use Rattle.mars_cell.specs.Cells.{op_index, modifier_index, mode_index}
use Rattle.mars_cell.specs.Grammar.{cell_of, comma_at, default_modifier, mode_at, modifier_at, number_at, op_at, operand_at, read_cell, suffix_at}
use Rattle.mars_cell.specs.Numbers.{by_value, nearest, parse_digits, parse_number, split_sign}
use Rattle.mars_cell.specs.Parts.{begins_word, joins, parts}
use Rattle.mars_cell.specs.Text.{cell_text, number_text}
use Rattle.mars_cell.specs.Words.{mode_of, modifier_of, op_of}

-- A cell, with the arguments in the order of its text.
abbrev pub cell : Op → Modifier → Mode → ℕ → Mode → ℕ → Cell
cell op modifier a_mode a b_mode b = record { op = op; modifier = modifier; a_mode = a_mode; a = a; b_mode = b_mode; b = b }

abbrev pub nop : Cell
nop = cell op.Nop modifier.F Direct 0 Direct 0

-- Indices of opcodes, modifiers and modes, which other programs rely on.
pub tags_have_places :
    (op_index op.Djn ≡ 10)
    × (op_index op.Seq ≡ 11)
    × (op_index op.Sne ≡ 12)
    × (modifier_index modifier.Ba ≡ 3)
    × (mode_index BPostincrement ≡ 7)
tags_have_places = (refl, refl, refl, refl, refl)

-- A number up to half the core size, the half included, is printed as it is.
pub numbers_are_written :
    (number_text 8 0 ≡ codes "0")
    × (number_text 8 4 ≡ codes "4")
    × (number_text 8 5 ≡ codes "-3")
    × (number_text 7 3 ≡ codes "3")
    × (number_text 7 4 ≡ codes "-3")
    × (number_text 1 0 ≡ codes "0")
    × (number_text 8000 7998 ≡ codes "-2")
unfolding digits
numbers_are_written = (refl, refl, refl, refl, refl, refl, refl)

-- A number that was written for a core of 8 cells has a value from -3 to 4, and for a core of 7 cells from -3 to 3. Its
-- value is taken modulo the size of the core that reads it.
pub numbers_by_value :
    (by_value 8 8000 (pos 7) ≡ 7999)
    × (by_value 8 8000 (neg_ℤ (pos 9)) ≡ 7999)
    × (by_value 8 8000 (pos 4) ≡ 4)
    × (by_value 8 8000 (neg_ℤ (pos 4)) ≡ 4)
    × (by_value 8 8000 (pos 13) ≡ 7997)
    × (by_value 7 8000 (pos 3) ≡ 3)
    × (by_value 7 8000 (pos 4) ≡ 7997)
    × (by_value 8000 8 (neg_ℤ (pos 1)) ≡ 7)
    × (by_value 8000 8 (pos 4001) ≡ 1)
    × (by_value 8000 8 (pos 0) ≡ 0)
    × (by_value 1 8000 (neg_ℤ (pos 5)) ≡ 0)
    × (by_value 8 8 (neg_ℤ (pos 9)) ≡ 7)
unfolding nearest
numbers_by_value = (refl, refl, refl, refl, refl, refl, refl, refl, refl, refl, refl, refl)

-- A cell is printed with its modifier and modes; CMP is printed as SEQ.
pub cells_are_written :
    (cell_text 8 (cell op.Mov modifier.I Direct 0 Direct 1) ≡ codes "MOV.I $0, $1")
    × (cell_text 8 (cell op.Seq modifier.B Direct 1 Immediate 2) ≡ codes "SEQ.B $1, #2")
    × (cell_text 8 (cell op.Mov modifier.Ab APredecrement 1 APostincrement 1) ≡ codes "MOV.AB {1, }1")
    × (cell_text 8 (cell op.Djn modifier.Ba AIndirect 4 BIndirect 5) ≡ codes "DJN.BA *4, @-3")
    × (cell_text 8 (cell op.Sne modifier.X BPredecrement 7 BPostincrement 0) ≡ codes "SNE.X <-1, >0")
unfolding digits
cells_are_written = (refl, refl, refl, refl, refl)

-- The names of opcodes, modifiers and modes are read; CMP is SEQ.
pub words_are_read :
    (op_of (codes "DAT") ≡ Some op.Dat)
    × (op_of (codes "MOV") ≡ Some op.Mov)
    × (op_of (codes "ADD") ≡ Some op.Add)
    × (op_of (codes "SUB") ≡ Some op.Sub)
    × (op_of (codes "MUL") ≡ Some op.Mul)
    × (op_of (codes "DIV") ≡ Some op.Div)
    × (op_of (codes "MOD") ≡ Some op.Mod)
    × (op_of (codes "JMP") ≡ Some op.Jmp)
    × (op_of (codes "JMZ") ≡ Some op.Jmz)
    × (op_of (codes "JMN") ≡ Some op.Jmn)
    × (op_of (codes "DJN") ≡ Some op.Djn)
    × (op_of (codes "SEQ") ≡ Some op.Seq)
    × (op_of (codes "SNE") ≡ Some op.Sne)
    × (op_of (codes "SLT") ≡ Some op.Slt)
    × (op_of (codes "SPL") ≡ Some op.Spl)
    × (op_of (codes "NOP") ≡ Some op.Nop)
    × (op_of (codes "CMP") ≡ Some op.Seq)
    × (modifier_of (codes "A") ≡ Some modifier.A)
    × (modifier_of (codes "B") ≡ Some modifier.B)
    × (modifier_of (codes "AB") ≡ Some modifier.Ab)
    × (modifier_of (codes "BA") ≡ Some modifier.Ba)
    × (modifier_of (codes "F") ≡ Some modifier.F)
    × (modifier_of (codes "X") ≡ Some modifier.X)
    × (modifier_of (codes "I") ≡ Some modifier.I)
    × (mode_of (codes "#") ≡ Some Immediate)
    × (mode_of (codes "$") ≡ Some Direct)
    × (mode_of (codes "*") ≡ Some AIndirect)
    × (mode_of (codes "@") ≡ Some BIndirect)
    × (mode_of (codes "{") ≡ Some APredecrement)
    × (mode_of (codes "<") ≡ Some BPredecrement)
    × (mode_of (codes "}") ≡ Some APostincrement)
    × (mode_of (codes ">") ≡ Some BPostincrement)
unfolding op_of modifier_of mode_of
words_are_read = (refl, refl, refl, refl, refl, refl, refl, refl, refl, refl, refl, refl, refl, refl, refl, refl, refl, refl, refl, refl, refl, refl, refl, refl, refl, refl, refl, refl, refl, refl, refl, refl)

-- The default modifiers of the standard's table.
pub default_modifiers :
    (default_modifier op.Dat Direct Direct ≡ modifier.F)
    × (default_modifier op.Nop Direct Direct ≡ modifier.F)
    × (default_modifier op.Dat Immediate Immediate ≡ modifier.F)
    × (default_modifier op.Nop Immediate Immediate ≡ modifier.F)
    × (default_modifier op.Mov Immediate Immediate ≡ modifier.Ab)
    × (default_modifier op.Mov Immediate Direct ≡ modifier.Ab)
    × (default_modifier op.Mov BIndirect Immediate ≡ modifier.B)
    × (default_modifier op.Mov Direct BPredecrement ≡ modifier.I)
    × (default_modifier op.Seq Immediate Immediate ≡ modifier.Ab)
    × (default_modifier op.Seq Immediate Direct ≡ modifier.Ab)
    × (default_modifier op.Seq BIndirect Immediate ≡ modifier.B)
    × (default_modifier op.Seq Direct BPredecrement ≡ modifier.I)
    × (default_modifier op.Sne Immediate Immediate ≡ modifier.Ab)
    × (default_modifier op.Sne Immediate Direct ≡ modifier.Ab)
    × (default_modifier op.Sne BIndirect Immediate ≡ modifier.B)
    × (default_modifier op.Sne Direct BPredecrement ≡ modifier.I)
    × (default_modifier op.Add Immediate Immediate ≡ modifier.Ab)
    × (default_modifier op.Add Immediate Direct ≡ modifier.Ab)
    × (default_modifier op.Add BIndirect Immediate ≡ modifier.B)
    × (default_modifier op.Add Direct BPredecrement ≡ modifier.F)
    × (default_modifier op.Sub Immediate Immediate ≡ modifier.Ab)
    × (default_modifier op.Sub Immediate Direct ≡ modifier.Ab)
    × (default_modifier op.Sub BIndirect Immediate ≡ modifier.B)
    × (default_modifier op.Sub Direct BPredecrement ≡ modifier.F)
    × (default_modifier op.Mul Immediate Immediate ≡ modifier.Ab)
    × (default_modifier op.Mul Immediate Direct ≡ modifier.Ab)
    × (default_modifier op.Mul BIndirect Immediate ≡ modifier.B)
    × (default_modifier op.Mul Direct BPredecrement ≡ modifier.F)
    × (default_modifier op.Div Immediate Immediate ≡ modifier.Ab)
    × (default_modifier op.Div Immediate Direct ≡ modifier.Ab)
    × (default_modifier op.Div BIndirect Immediate ≡ modifier.B)
    × (default_modifier op.Div Direct BPredecrement ≡ modifier.F)
    × (default_modifier op.Mod Immediate Immediate ≡ modifier.Ab)
    × (default_modifier op.Mod Immediate Direct ≡ modifier.Ab)
    × (default_modifier op.Mod BIndirect Immediate ≡ modifier.B)
    × (default_modifier op.Mod Direct BPredecrement ≡ modifier.F)
    × (default_modifier op.Slt Immediate Immediate ≡ modifier.Ab)
    × (default_modifier op.Slt Immediate Direct ≡ modifier.Ab)
    × (default_modifier op.Slt Direct Immediate ≡ modifier.B)
    × (default_modifier op.Slt Direct AIndirect ≡ modifier.B)
    × (default_modifier op.Jmp Immediate Direct ≡ modifier.B)
    × (default_modifier op.Jmp Direct Immediate ≡ modifier.B)
    × (default_modifier op.Jmz Immediate Direct ≡ modifier.B)
    × (default_modifier op.Jmz Direct Immediate ≡ modifier.B)
    × (default_modifier op.Jmn Immediate Direct ≡ modifier.B)
    × (default_modifier op.Jmn Direct Immediate ≡ modifier.B)
    × (default_modifier op.Djn Immediate Direct ≡ modifier.B)
    × (default_modifier op.Djn Direct Immediate ≡ modifier.B)
    × (default_modifier op.Spl Immediate Direct ≡ modifier.B)
    × (default_modifier op.Spl Direct Immediate ≡ modifier.B)
unfolding default_modifier
default_modifiers = (refl, refl, refl, refl, refl, refl, refl, refl, refl, refl, refl, refl, refl, refl, refl, refl, refl, refl, refl, refl, refl, refl, refl, refl, refl, refl, refl, refl, refl, refl, refl, refl, refl, refl, refl, refl, refl, refl, refl, refl, refl, refl, refl, refl, refl, refl, refl, refl, refl, refl)

-- Whitespace may be between all parts, upper and lower case are equal, and the modes and the modifier may be left out.
pub cells_are_read :
    (read_cell 8 (codes "MOV.I $0, $1") ≡ Some (cell op.Mov modifier.I Direct 0 Direct 1))
    × (read_cell 8 (codes "MOV . I $ 0 , $ 1") ≡ Some (cell op.Mov modifier.I Direct 0 Direct 1))
    × (read_cell 8 (codes "  mOv\t0,1  ") ≡ Some (cell op.Mov modifier.I Direct 0 Direct 1))
    × (read_cell 8 (codes "MOV$0,1") ≡ Some (cell op.Mov modifier.I Direct 0 Direct 1))
    × (read_cell 8 (codes "MOV-1,+2") ≡ Some (cell op.Mov modifier.I Direct 7 Direct 2))
    × (read_cell 8 (codes "MOV.i-8,-9") ≡ Some (cell op.Mov modifier.I Direct 0 Direct 7))
    × (read_cell 8 (codes "cmp 1, #2") ≡ Some (cell op.Seq modifier.B Direct 1 Immediate 2))
    × (read_cell 8 (codes "ADD #4, 3") ≡ Some (cell op.Add modifier.Ab Immediate 4 Direct 3))
    × (read_cell 8 (codes "JMP.F *1, >2") ≡ Some (cell op.Jmp modifier.F AIndirect 1 BPostincrement 2))
    × (read_cell 10 (codes "NOP 123456789012345678, -123456789012345678") ≡ Some (cell op.Nop modifier.F Direct 8 Direct 2))
unfolding parts joins begins_word cell_of op_at suffix_at modifier_at mode_at number_at operand_at comma_at op_of modifier_of mode_of parse_number parse_digits split_sign nearest default_modifier
cells_are_read = (refl, refl, refl, refl, refl, refl, refl, refl, refl, refl)

-- A number is one part, a word includes the digits after it, and nothing may follow the second operand.
pub no_cells :
    (read_cell 8 (codes "MOV - 1, 2") ≡ None)
    × (read_cell 8 (codes "MOV -, 1") ≡ None)
    × (read_cell 8 (codes "MOV0, 1") ≡ None)
    × (read_cell 8 (codes "MOV.I0, 1") ≡ None)
    × (read_cell 8 (codes "MOV.I 0") ≡ None)
    × (read_cell 8 (codes "MOV") ≡ None)
    × (read_cell 8 (codes "") ≡ None)
    × (read_cell 8 (codes "MOV.I 0 1") ≡ None)
    × (read_cell 8 (codes "MOV.I 0, 1, 2") ≡ None)
    × (read_cell 8 (codes "MOV.I 0, 1 2") ≡ None)
    × (read_cell 8 (codes "MOV.I 0, 1 ; a comment") ≡ None)
    × (read_cell 8 (codes "MOV.I 0, 1\n") ≡ None)
    × (read_cell 8 (codes "MOV..I 0, 1") ≡ None)
    × (read_cell 8 (codes "MOV.Q 0, 1") ≡ None)
    × (read_cell 8 (codes "MOV.I 0x1, 1") ≡ None)
    × (read_cell 8 (codes "MOV.I ++1, 1") ≡ None)
    × (read_cell 8 (codes "MOV.I $$1, 1") ≡ None)
    × (read_cell 8 (codes "STP 1, 2") ≡ None)
    × (read_cell 8 (codes "NOP 1234567890123456789, 0") ≡ None)
unfolding parts joins begins_word cell_of op_at suffix_at modifier_at mode_at number_at operand_at comma_at op_of modifier_of mode_of parse_number parse_digits split_sign nearest default_modifier
no_cells = (refl, refl, refl, refl, refl, refl, refl, refl, refl, refl, refl, refl, refl, refl, refl, refl, refl, refl, refl)
