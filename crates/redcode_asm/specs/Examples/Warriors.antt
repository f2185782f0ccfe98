-- Examples: sources and the warriors that they are assembled to.
use Rattle.std.specs.Prelude.{◌≡◌, ℕ, List, [], ◌∷◌, ◌++◌, map, Result, Ok, Err, codes, refl}
use Rattle.std.specs.Fmt.{digits}
use Rattle.mars_cell.specs.Grammar.{default_modifier}
use Rattle.mars_cell.specs.Parameters.{Parameters}
use Rattle.mars_cell.specs.Text.{cell_text}
use Rattle.mars_cell.specs.Warriors.{WarriorValue}
use Rattle.mars_cell.specs.Words.{op_of, modifier_of}
use Rattle.redcode_text.specs.declared.fault.ExprFault.TheVariants.{Syntax, Unknown}
use Rattle.redcode_text.specs.declared.fault.TextProblem.TheVariants.{UnclosedFor, EquDepth, BadToken}
use Rattle.redcode_text.specs.Expansion.{expansion}
use Rattle.redcode_text.specs.Expression.{value_of, tree_within}
use Rattle.redcode_asm.specs.declared.fault.AsmFault.{AsmFault}
use Rattle.redcode_asm.specs.declared.fault.AsmProblem.{AsmProblem}
use Rattle.redcode_asm.specs.declared.fault.AsmProblem.TheVariants.{Text, Operation, Operand, Expression, AssertFailed, BadOrigin, Empty, TooLong}
use Rattle.redcode_asm.specs.Assembly.{assembly}

abbrev pub text : List (List ℕ) → List ℕ
text [] = []
text (l ∷ ls) = l ++ 10 ∷ text ls

abbrev pub parameters : ℕ → Parameters
parameters m = record { core_size = m; processes = 8; cycles = 10; read_limit = m; write_limit = m; max_length = 4; distance = 4 }

-- The start of a warrior and the text of each of its cells, or the error with its line.
abbrev pub Listing : Type 0
Listing = Result (ℕ × List (List ℕ)) (ℕ × AsmProblem)

abbrev pub listed : ℕ → Result WarriorValue AsmFault → Listing
listed m (Ok w) = Ok (w.start, map (cell_text m) w.cells)
listed m (Err e) = Err (e.line, e.problem)

abbrev pub assembled : List (List ℕ) → Listing
unfolding assembly
assembled ls = listed 8000 (assembly (parameters 8000) 2 3 (text ls))

abbrev pub fault : ℕ → AsmProblem → Listing
fault n p = Err (n, p)

-- Default modifiers and modes.
pub row_defaults :
    (assembled (codes "ADD #4, 3" ∷ codes "MOV 2, @2" ∷ codes "JMP -2" ∷ codes "DAT #0, #0" ∷ []) ≡ Ok (0, codes "ADD.AB #4, $3" ∷ codes "MOV.I $2, @2" ∷ codes "JMP.B $-2, $0" ∷ codes "DAT.F #0, #0" ∷ []))
    × (assembled (codes "DAT 5" ∷ codes "SPL 2" ∷ codes "CMP 1, #2" ∷ codes "nop" ∷ []) ≡ Ok (0, codes "DAT.F $0, $5" ∷ codes "SPL.B $2, $0" ∷ codes "SEQ.B $1, #2" ∷ codes "NOP.F $0, $0" ∷ []))
    × (assembled (codes "SLT 1, #2" ∷ codes "SLT #1, 2" ∷ codes "mov . ba * 1, { -1" ∷ []) ≡ Ok (0, codes "SLT.B $1, #2" ∷ codes "SLT.AB #1, $2" ∷ codes "MOV.BA *1, {-1" ∷ []))
unfolding assembly expansion value_of tree_within digits default_modifier op_of modifier_of
row_defaults = (refl, refl, refl)

-- Every mode, and NOP with one operand.
pub modes_are_read :
    (assembled (codes "MOV #1, $2" ∷ codes "MOV *1, @2" ∷ codes "MOV {1, <2" ∷ codes "MOV }1, >2" ∷ []) ≡ Ok (0, codes "MOV.AB #1, $2" ∷ codes "MOV.I *1, @2" ∷ codes "MOV.I {1, <2" ∷ codes "MOV.I }1, >2" ∷ []))
    × (assembled (codes "NOP 5" ∷ []) ≡ Ok (0, codes "NOP.F $5, $0" ∷ []))
unfolding assembly expansion value_of tree_within digits default_modifier op_of modifier_of
modes_are_read = (refl, refl)

-- Parameters with different values, except that both limits are the core size.
abbrev others : Parameters
others = record { core_size = 80; processes = 7; cycles = 11; read_limit = 80; write_limit = 80; max_length = 3; distance = 5 }

-- The values of the predefined names.
pub names_are_predefined : listed 80 (assembly others 2 9 (text (codes "DAT CORESIZE-1, MAXPROCESSES" ∷ codes "DAT MAXCYCLES, MAXLENGTH" ∷ codes "DAT MINDISTANCE, ROUNDS*10+WARRIORS" ∷ [])))
    ≡ Ok (0, codes "DAT.F $-1, $7" ∷ codes "DAT.F $11, $3" ∷ codes "DAT.F $5, $29" ∷ [])
unfolding assembly expansion value_of tree_within digits default_modifier op_of modifier_of
names_are_predefined = refl

-- Unknown operations and modifiers, missing, empty and third operands, and expressions without a value.
pub row_operations :
    (assembled (codes "JMP" ∷ []) ≡ fault 1 Operand)
    × (assembled (codes "STP 1, 2" ∷ []) ≡ fault 1 Operation)
    × (assembled (codes "MOV.Q 1, 2" ∷ []) ≡ fault 1 Operation)
    × (assembled (codes "MOV. , 1" ∷ []) ≡ fault 1 Operation)
    × (assembled (codes "x EQU x" ∷ codes "MOV.Q x" ∷ []) ≡ fault 2 Operation)
    × (assembled (codes "i FOR 1" ∷ codes "MOV.i 1, 2" ∷ codes "ROF" ∷ []) ≡ fault 2 Operation)
    × (assembled (codes "5 NOP" ∷ []) ≡ fault 1 Operation)
    × (assembled (codes "x EQU 5" ∷ codes "a b EQU 1" ∷ []) ≡ fault 2 Operation)
    × (assembled (codes "NOP 1, 2, 3" ∷ []) ≡ fault 1 Operand)
    × (assembled (codes "NOP 1," ∷ []) ≡ fault 1 Operand)
    × (assembled (codes "NOP ,1" ∷ []) ≡ fault 1 Operand)
    × (assembled (codes "NOP 1, #" ∷ []) ≡ fault 1 (Expression Syntax))
    × (assembled (codes "NOP (1, 2)" ∷ []) ≡ fault 1 (Expression Syntax))
    × (assembled (codes "NOP x, 1/0" ∷ []) ≡ fault 1 (Expression Unknown))
unfolding assembly expansion value_of tree_within digits default_modifier op_of modifier_of
row_operations = (refl, refl, refl, refl, refl, refl, refl, refl, refl, refl, refl, refl, refl, refl)

-- A label's value is relative to the instruction that uses it. An operand may use an EQU name before its definition.
pub row_names :
    (assembled (codes "FOR 0" ∷ codes "this is prose" ∷ codes "ROF" ∷ codes "i FOR 2" ∷ codes "x&i DAT i, 0" ∷ codes "ROF" ∷ codes "DAT x02, x01" ∷ []) ≡ Ok (0, codes "DAT.F $1, $0" ∷ codes "DAT.F $2, $0" ∷ codes "DAT.F $-1, $-2" ∷ []))
    × (assembled (codes "FOR 0" ∷ codes "this is prose" ∷ codes "ROF" ∷ codes "i FOR 2" ∷ codes "x&i DAT i, 0" ∷ codes "DAT x02, x01" ∷ []) ≡ fault 4 (Text UnclosedFor))
    × (assembled (codes "step EQU 4" ∷ codes "copy EQU MOV.I target, step" ∷ codes "     EQU ADD.AB #step, target" ∷ codes "target DAT 0, 0" ∷ codes "copy" ∷ codes "END target" ∷ []) ≡ Ok (0, codes "DAT.F $0, $0" ∷ codes "MOV.I $-1, $4" ∷ codes "ADD.AB #4, $-2" ∷ []))
    × (assembled (codes "NOP" ∷ codes "a: DAT CURLINE, b" ∷ codes "b" ∷ []) ≡ Ok (0, codes "NOP.F $0, $0" ∷ codes "DAT.F $1, $1" ∷ []))
    × (assembled (codes "DAT n, m" ∷ codes "n EQU m+1" ∷ codes "m EQU WARRIORS*ROUNDS" ∷ []) ≡ Ok (0, codes "DAT.F $7, $6" ∷ []))
    × (assembled (codes "DAT m" ∷ codes "m EQU" ∷ []) ≡ Ok (0, codes "DAT.F $0, $0" ∷ []))
    × (assembled (codes "JMP m" ∷ codes "m EQU" ∷ []) ≡ fault 1 Operand)
    × (assembled (codes "x EQU x" ∷ codes "x" ∷ []) ≡ fault 2 (Text EquDepth))
    × (assembled (codes "x EQU y+y" ∷ codes "y EQU x+x" ∷ codes "DAT x" ∷ []) ≡ fault 3 (Text EquDepth))
    × (assembled (codes "x EQU 1" ∷ codes " EQU 2" ∷ codes "DAT x" ∷ []) ≡ fault 3 (Text BadToken))
unfolding assembly expansion value_of tree_within digits default_modifier op_of modifier_of
row_names = (refl, refl, refl, refl, refl, refl, refl, refl, refl, refl)

-- The last ORG has precedence over the operand of END.
pub row_starts :
    (assembled (codes "ORG 4" ∷ codes "NOP" ∷ codes "NOP" ∷ codes "ORG b" ∷ codes "b NOP" ∷ codes "END 1" ∷ []) ≡ Ok (2, codes "NOP.F $0, $0" ∷ codes "NOP.F $0, $0" ∷ codes "NOP.F $0, $0" ∷ []))
    × (assembled (codes "NOP" ∷ codes "b NOP" ∷ codes "END b" ∷ codes "NOP 1x" ∷ []) ≡ Ok (1, codes "NOP.F $0, $0" ∷ codes "NOP.F $0, $0" ∷ []))
    × (assembled (codes "ORG 4" ∷ codes "ADD #4, 3" ∷ codes "MOV 2, @2" ∷ codes "JMP -2" ∷ codes "DAT #0, #0" ∷ []) ≡ fault 1 BadOrigin)
    × (assembled (codes "NOP" ∷ codes "ORG -1" ∷ []) ≡ fault 2 BadOrigin)
    × (assembled (codes "NOP" ∷ codes "ORG m" ∷ codes "m EQU" ∷ []) ≡ fault 2 (Expression Syntax))
    × (assembled (codes "NOP" ∷ codes "m EQU" ∷ codes "END m" ∷ []) ≡ Ok (0, codes "NOP.F $0, $0" ∷ []))
    × (assembled (codes "NOP" ∷ codes "END x" ∷ []) ≡ fault 2 (Expression Unknown))
    × (assembled (codes "NOP" ∷ codes "ORG CURLINE-1" ∷ []) ≡ Ok (0, codes "NOP.F $0, $0" ∷ []))
unfolding assembly expansion value_of tree_within digits default_modifier op_of modifier_of
row_starts = (refl, refl, refl, refl, refl, refl, refl, refl)

-- The order of the errors: instructions, length, start, asserts.
pub row_order :
    (assembled (codes ";assert 0" ∷ codes "ORG 9" ∷ codes "NOP" ∷ codes "NOP" ∷ codes "NOP" ∷ codes "NOP" ∷ codes "NOP" ∷ codes "NOP x" ∷ []) ≡ fault 8 (Expression Unknown))
    × (assembled (codes ";assert 0" ∷ codes "ORG 9" ∷ codes "NOP" ∷ codes "NOP" ∷ codes "NOP" ∷ codes "NOP" ∷ codes "NOP" ∷ codes "NOP 1" ∷ []) ≡ fault 7 TooLong)
    × (assembled (codes ";assert 0" ∷ codes "ORG 9" ∷ codes "NOP" ∷ []) ≡ fault 2 BadOrigin)
    × (assembled (codes ";assert 0" ∷ codes "NOP" ∷ []) ≡ fault 1 AssertFailed)
    × (assembled (codes ";assert a" ∷ codes "a NOP" ∷ []) ≡ fault 1 (Expression Unknown))
    × (assembled (codes "NOP" ∷ codes ";assert CURLINE==1 && VERSION==80 ; 0" ∷ []) ≡ Ok (0, codes "NOP.F $0, $0" ∷ []))
    × (assembled (codes ";assert 0" ∷ []) ≡ fault 0 Empty)
    × (assembled ([] ∷ []) ≡ fault 0 Empty)
unfolding assembly expansion value_of tree_within digits default_modifier op_of modifier_of
row_order = (refl, refl, refl, refl, refl, refl, refl, refl)

-- An assert holds if its value is not 0, and every assert must hold. EQU names may be defined after an assert.
pub asserts_are_checked :
    (assembled (codes ";assert 2" ∷ codes ";assert -1" ∷ codes ";assert x" ∷ codes "NOP" ∷ codes "x EQU 1" ∷ []) ≡ Ok (0, codes "NOP.F $0, $0" ∷ []))
    × (assembled (codes ";assert 1" ∷ codes ";assert x-1" ∷ codes "NOP" ∷ codes "x EQU 1" ∷ []) ≡ fault 2 AssertFailed)
unfolding assembly expansion value_of tree_within digits default_modifier op_of modifier_of
asserts_are_checked = (refl, refl)

-- In a core of one cell every number is 0.
pub row_small_core :
    (listed 1 (assembly (parameters 1) 1 1 (text (codes ";assert CORESIZE==8000" ∷ codes "ADD.F }0, {0" ∷ []))) ≡ fault 1 AssertFailed)
    × (listed 1 (assembly (parameters 1) 1 1 (text (codes "ADD.F }5, {-7" ∷ []))) ≡ Ok (0, codes "ADD.F }0, {0" ∷ []))
unfolding assembly expansion value_of tree_within digits default_modifier op_of modifier_of
row_small_core = (refl, refl)
