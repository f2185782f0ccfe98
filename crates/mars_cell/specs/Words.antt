-- The names of opcodes, modifiers and modes, as they are printed and as they are read.
use Rattle.std.specs.Prelude.{ℕ, List, [], ◌∷◌, Option, if◌then◌else◌, codes}
use Rattle.std.specs.List.{find}
use Rattle.std.specs.Str.{bytes_eq, str_eq_ignore_ascii_case}
use Rattle.mars_cell.specs.declared.instruction.Op.{Op}
use Rattle.mars_cell.specs.declared.instruction.Op.TheVariants as op
use Rattle.mars_cell.specs.declared.instruction.Modifier.{Modifier}
use Rattle.mars_cell.specs.declared.instruction.Modifier.TheVariants as modifier
use Rattle.mars_cell.specs.declared.instruction.Mode.{Mode}
use Rattle.mars_cell.specs.declared.instruction.Mode.TheVariants as mode

-- The name of an opcode, as it is printed.
abbrev pub op_name : Op → List ℕ
op_name op.Dat = codes "DAT"
op_name op.Mov = codes "MOV"
op_name op.Add = codes "ADD"
op_name op.Sub = codes "SUB"
op_name op.Mul = codes "MUL"
op_name op.Div = codes "DIV"
op_name op.Mod = codes "MOD"
op_name op.Jmp = codes "JMP"
op_name op.Jmz = codes "JMZ"
op_name op.Jmn = codes "JMN"
op_name op.Djn = codes "DJN"
op_name op.Seq = codes "SEQ"
op_name op.Sne = codes "SNE"
op_name op.Slt = codes "SLT"
op_name op.Spl = codes "SPL"
op_name op.Nop = codes "NOP"

-- The name of a modifier, as it is printed.
abbrev pub modifier_name : Modifier → List ℕ
modifier_name modifier.A = codes "A"
modifier_name modifier.B = codes "B"
modifier_name modifier.Ab = codes "AB"
modifier_name modifier.Ba = codes "BA"
modifier_name modifier.F = codes "F"
modifier_name modifier.X = codes "X"
modifier_name modifier.I = codes "I"

-- The character of a mode.
abbrev pub mode_name : Mode → List ℕ
mode_name mode.Immediate = codes "#"
mode_name mode.Direct = codes "$"
mode_name mode.AIndirect = codes "*"
mode_name mode.BIndirect = codes "@"
mode_name mode.APredecrement = codes "{"
mode_name mode.BPredecrement = codes "<"
mode_name mode.APostincrement = codes "}"
mode_name mode.BPostincrement = codes ">"

-- All opcodes, in the order of their indices.
abbrev pub ops : List Op
ops = op.Dat ∷ op.Mov ∷ op.Add ∷ op.Sub ∷ op.Mul ∷ op.Div ∷ op.Mod ∷ op.Jmp ∷ op.Jmz ∷ op.Jmn ∷ op.Djn ∷ op.Seq ∷ op.Sne ∷ op.Slt ∷ op.Spl ∷ op.Nop ∷ []

-- All modifiers, in the order of their indices.
abbrev pub modifiers : List Modifier
modifiers = modifier.A ∷ modifier.B ∷ modifier.Ab ∷ modifier.Ba ∷ modifier.F ∷ modifier.X ∷ modifier.I ∷ []

-- All modes, in the order of their indices.
abbrev pub modes : List Mode
modes = mode.Immediate ∷ mode.Direct ∷ mode.AIndirect ∷ mode.BIndirect ∷ mode.APredecrement ∷ mode.BPredecrement ∷ mode.APostincrement ∷ mode.BPostincrement ∷ []

-- The opcode that `word` names, in upper or lower case; CMP is another name of SEQ.
unfoldable pub op_of : List ℕ → Option Op
op_of word =
    let name = if str_eq_ignore_ascii_case word (codes "CMP") then codes "SEQ" else word in find (λ o. str_eq_ignore_ascii_case name (op_name o)) ops

-- The modifier that `word` names, in upper or lower case.
unfoldable pub modifier_of : List ℕ → Option Modifier
modifier_of word = find (λ m. str_eq_ignore_ascii_case word (modifier_name m)) modifiers

-- The mode whose character is `word`.
unfoldable pub mode_of : List ℕ → Option Mode
mode_of word = find (λ m. bytes_eq (mode_name m) word) modes
