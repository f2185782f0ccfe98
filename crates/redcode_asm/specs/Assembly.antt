-- The assembler: the warrior that a source is assembled to. In this file, `ps` is the list of predefined names with their
-- values, `source` the program that was read, `names` its table of names, and `m` the core size.
use Rattle.std.specs.Prelude.{ℕ, zero, ◌+◌, List, [], ◌∷◌, length, drop, take, filter, Bool, true, false, ◌==◌, ℤ, pos, negsuc, ◌-ℤ◌, Option, Some, None, unwrap_or, option_map, Result, Ok, Err, if◌then◌else◌, nat_lt, codes}
use Rattle.std.specs.List.{list_any, onto_first, last_or}
use Rattle.mars_cell.specs.declared.instruction.Cell.{Cell}
use Rattle.mars_cell.specs.declared.instruction.Mode.{Mode}
use Rattle.mars_cell.specs.declared.instruction.Mode.TheVariants as mode
use Rattle.mars_cell.specs.declared.instruction.Modifier.{Modifier}
use Rattle.mars_cell.specs.declared.instruction.Op.{Op}
use Rattle.mars_cell.specs.declared.instruction.Op.TheVariants as op
use Rattle.mars_cell.specs.Grammar.{default_modifier}
use Rattle.mars_cell.specs.Numbers.{residue}
use Rattle.mars_cell.specs.Parameters.{Parameters}
use Rattle.mars_cell.specs.Warriors.{WarriorValue}
use Rattle.mars_cell.specs.Words.{op_of, modifier_of}
use Rattle.redcode_text.specs.Results.{◌>>=◌}
use Rattle.redcode_text.specs.declared.fault.ExprFault.{ExprFault}
use Rattle.redcode_text.specs.declared.fault.TextFault.{TextFault}
use Rattle.redcode_text.specs.declared.fault.TextTokenProblem.{TextTokenProblem}
use Rattle.redcode_text.specs.declared.token.Sign.{Sign}
use Rattle.redcode_text.specs.declared.token.Sign.TheVariants as sign
use Rattle.redcode_text.specs.declared.token.Span.{Span}
use Rattle.redcode_text.specs.declared.token.Token.{Token}
use Rattle.redcode_text.specs.declared.token.TokenKind.{TokenKind}
use Rattle.redcode_text.specs.declared.token.TokenKind.TheVariants.{Number, Name}
use Rattle.redcode_text.specs.declared.token.TokenKind.TheVariants as token
use Rattle.redcode_text.specs.Equates.{substitution}
use Rattle.redcode_text.specs.Spans.{first_span, last_span}
use Rattle.redcode_text.specs.Tokens.{without_line}
use Rattle.redcode_text.specs.Expansion.{ProgramValue, expansion}
use Rattle.redcode_text.specs.Expression.{fault_span, found_or, kinds, value_of}
use Rattle.redcode_text.specs.Lines.{Line, Assert, Predefined, predefined_value, with_current_line, name_at, is_instruction, is_org, is_end}
use Rattle.redcode_asm.specs.declared.fault.AsmFault.{AsmFault}
use Rattle.redcode_asm.specs.declared.fault.AsmProblem.{AsmProblem}
use Rattle.redcode_asm.specs.declared.fault.AsmTokenProblem.{AsmTokenProblem}
use Rattle.redcode_asm.specs.declared.fault.AsmProblem.TheVariants.{Text, Operation, Operand, Expression, AssertFailed, BadOrigin, Empty, TooLong}

-- The given value, or the error `problem` if there is none.
abbrev pub ok_or : {A : Type 0} → AsmProblem → Option A → Result A AsmProblem
ok_or problem (Some x) = Ok x
ok_or problem None = Err problem

-- A result whose error gets `span`, the bytes of the token at which the error arises.
abbrev pub at_token : {A : Type 0} → Option Span → Result A AsmProblem → Result A AsmTokenProblem
at_token span (Ok x) = Ok x
at_token span (Err e) = Err (record { problem = e; token = span })

-- A result whose error gets the line number `line`.
abbrev pub at_line : {A : Type 0} → ℕ → Result A AsmTokenProblem → Result A AsmFault
at_line line (Ok x) = Ok x
at_line line (Err e) = Err (record { line = line; problem = e.problem; token = e.token })

-- ---- Names

-- The predefined names and their values, for the parameters `p` and the values of ROUNDS and WARRIORS.
abbrev pub predefined : Parameters → ℕ → ℕ → Predefined
predefined p rounds warriors =
    (codes "CORESIZE", pos p.core_size) ∷ (codes "MAXPROCESSES", pos p.processes) ∷ (codes "MAXCYCLES", pos p.cycles) ∷ (codes "MAXLENGTH", pos p.max_length)
    ∷ (codes "MINDISTANCE", pos p.distance) ∷ (codes "ROUNDS", pos rounds) ∷ (codes "WARRIORS", pos warriors) ∷ (codes "VERSION", pos 80) ∷ []

-- A line with its index, which is the number of instructions before the line.
pub record Placed : Type 0 where
  pub index : ℕ
  pub line : Line

-- The index of the line that follows `l`, if `index` is the index of `l`.
abbrev pub index_after : List (List ℕ) → ℕ → Line → ℕ
index_after names index l = elim (is_instruction names l.operation l.rest) [ true ↦ index + 1 | false ↦ index ]

-- The lines with their indices. `index` is the index of the first line.
abbrev pub placed_from : List (List ℕ) → ℕ → List Line → List Placed
placed_from names index [] = []
placed_from names index (l ∷ ls) = record { index = index; line = l } ∷ placed_from names (index_after names index l) ls

-- The lines of a program, with their indices.
abbrev pub placed : ProgramValue → List Placed
placed source = placed_from source.names 0 source.lines

-- The instructions of a program, with their indices.
abbrev pub instructions : ProgramValue → List Placed
instructions source = filter (λ p. is_instruction source.names p.line.operation p.line.rest) (placed source)

-- The index of the first line that has the label `n`.
abbrev pub label_among : List Placed → ℕ → Option ℕ
label_among [] n = None
label_among (p ∷ lines) n = elim (list_any (λ m. m == n) p.line.labels) [ true ↦ Some p.index | false ↦ label_among lines n ]

-- The first value, or `other` if there is none.
abbrev pub value_or : Option ℤ → Option ℤ → Option ℤ
value_or (Some v) other = Some v
value_or None other = other

-- The value of the name `n` on a line with `index` instructions before it, if `n` is predefined or CURLINE.
abbrev pub known_value : Predefined → ProgramValue → ℕ → ℕ → Option ℤ
known_value ps source index n = predefined_value (with_current_line ps index) (name_at source.names n)

-- The value of the name `n` on a line with `index` instructions before it. The value of a label is its distance from the
-- instruction `origin`.
abbrev pub name_value : Predefined → ProgramValue → ℕ → ℕ → ℕ → Option ℤ
name_value ps source origin index n = value_or (option_map (λ i. pos i -ℤ pos origin) (label_among (placed source) n)) (known_value ps source index n)

-- A value whose error becomes an error of the assembler, with the bytes that `span` gives.
abbrev pub expressed : (ExprFault → Option Span) → Result ℤ ExprFault → Result ℤ AsmTokenProblem
expressed span (Ok v) = Ok v
expressed span (Err e) = Err (record { problem = Expression e; token = span e })

-- The value of the expression `ts`. An expression without tokens has its error at the token `before`.
abbrev pub value_in : (ℕ → Option ℤ) → Option Span → List Token → Result ℤ AsmTokenProblem
value_in names before ts = expressed (fault_span names before ts) (value_of names (kinds ts))

-- A result whose error of the text becomes an error of the assembler.
abbrev pub texted : {A : Type 0} → Result A TextTokenProblem → Result A AsmTokenProblem
texted (Ok x) = Ok x
texted (Err e) = Err (record { problem = Text e.problem; token = e.token })

-- The tokens `ts` with each EQU name replaced by its definition. An error has no line yet, and gets the line on which
-- the names are used.
abbrev pub replaced : ProgramValue → List Token → Result (List Token) AsmTokenProblem
replaced source ts = texted (without_line (substitution source.equates ts))

-- ---- Instructions

-- The mode that a sign denotes, if it denotes one.
abbrev pub mode_sign : Sign → Option Mode
mode_sign sign.Hash = Some mode.Immediate
mode_sign sign.Dollar = Some mode.Direct
mode_sign sign.Star = Some mode.AIndirect
mode_sign sign.At = Some mode.BIndirect
mode_sign sign.OpenBrace = Some mode.APredecrement
mode_sign sign.Less = Some mode.BPredecrement
mode_sign sign.CloseBrace = Some mode.APostincrement
mode_sign sign.Greater = Some mode.BPostincrement
mode_sign _ = None

-- The mode that a token denotes, if it denotes one.
abbrev pub mode_of : TokenKind → Option Mode
mode_of (token.Sign s) = mode_sign s
mode_of _ = None

-- The mode of an operand, `$` if none is written, and the tokens of its expression.
abbrev pub split_mode : List Token → Mode × List Token
split_mode [] = (mode.Direct, [])
split_mode (t ∷ ts) = elim (mode_of t.kind) [ Some m ↦ (m, ts) | None ↦ (mode.Direct, t ∷ ts) ]

abbrev pub is_comma : TokenKind → Bool
is_comma (token.Sign sign.Comma) = true
is_comma _ = false

-- The tokens before, between and after the commas.
abbrev pub parts_at_commas : List Token → List (List Token)
parts_at_commas [] = [] ∷ []
parts_at_commas (t ∷ ts) = elim (is_comma t.kind) [ true ↦ [] ∷ parts_at_commas ts | false ↦ onto_first t (parts_at_commas ts) ]

-- The tokens of the A-operand and the B-operand, if they are written.
pub record Operands : Type 0 where
  pub a : Option (List Token)
  pub b : Option (List Token)

-- The operands of an instruction that is written without operands, which only DAT and NOP may be.
abbrev pub no_operand : Op → Result Operands AsmProblem
no_operand op.Dat = Ok (record { a = None; b = None })
no_operand op.Nop = Ok (record { a = None; b = None })
no_operand o = Err Operand

-- The operands of an instruction with the one operand `x`, the B-operand of DAT or the A-operand of any other opcode.
abbrev pub one_operand : Op → List Token → Operands
one_operand op.Dat x = record { a = None; b = Some x }
one_operand o x = record { a = Some x; b = None }

-- The operands of the opcode `o`, each given by its tokens.
abbrev pub operands_of : Op → List (List Token) → Result Operands AsmProblem
operands_of o [] = no_operand o
operands_of o (x ∷ []) = Ok (one_operand o x)
operands_of o (x ∷ y ∷ []) = Ok (record { a = Some x; b = Some y })
operands_of o (x ∷ y ∷ z ∷ rest) = Err Operand

-- The operands of the opcode `o`, whose tokens were split at the commas into `parts`. No operand may be empty.
abbrev pub full_operands : Op → List (List Token) → Result Operands AsmProblem
full_operands o parts = if list_any (λ p. length p == 0) parts then Err Operand else operands_of o parts

-- The operands of the opcode `o`, which the given tokens follow.
abbrev pub given_operands : Op → List Token → Result Operands AsmProblem
given_operands o [] = no_operand o
given_operands o (t ∷ ts) = full_operands o (parts_at_commas (t ∷ ts))

abbrev pub commas : List Token → List Token
commas ts = filter (λ t. is_comma t.kind) ts

-- The token of an error of the operands in `ts`: the second comma, or else the first one, or else the operation.
abbrev pub operands_span : Option Span → List Token → Option Span
operands_span operation ts = last_span operation (take 2 (commas ts))

-- The mode and the number of an operand in a core of `m` cells, `$0` if the operand is not written.
abbrev pub operand_value : ℕ → (ℕ → Option ℤ) → Option (List Token) → Result (Mode × ℕ) AsmTokenProblem
operand_value m names None = Ok (mode.Direct, 0)
operand_value m names (Some ts) = value_in names (first_span ts) (split_mode ts).1 >>= λ v. Ok ((split_mode ts).0, residue m v)

-- The opcode that an operation names.
abbrev pub opcode_of : List (List ℕ) → Option ℕ → Result Op AsmProblem
opcode_of names None = Err Operation
opcode_of names (Some n) = ok_or Operation (op_of (name_at names n))

-- The token of an unknown operation: the operation, or else the last token of the labels, or else the first token.
abbrev pub opcode_span : Line → Option Span
opcode_span l = found_or l.operation_span (first_span l.rest)

-- The modifier that the token after the `.` names.
abbrev pub modifier_in : List (List ℕ) → TokenKind → Result Modifier AsmProblem
modifier_in names (Name n) = ok_or Operation (modifier_of (name_at names n))
modifier_in names _ = Err Operation

-- The modifier that the first token names, and the tokens after it.
abbrev pub modifier_first : List (List ℕ) → List Token → Result (Option Modifier × List Token) AsmProblem
modifier_first names [] = Err Operation
modifier_first names (t ∷ ts) = modifier_in names t.kind >>= λ m. Ok (Some m, ts)

abbrev pub is_dot : TokenKind → Bool
is_dot (token.Sign sign.Dot) = true
is_dot _ = false

-- The modifier with which the tokens start, if they start with a `.`, and the tokens after it.
abbrev pub split_modifier : List (List ℕ) → List Token → Result (Option Modifier × List Token) AsmProblem
split_modifier names [] = Ok (None, [])
split_modifier names (t ∷ ts) = elim (is_dot t.kind) [ true ↦ modifier_first names ts | false ↦ Ok (None, t ∷ ts) ]

-- The token of an unknown modifier: the token after the `.`, or the `.` if there is none.
abbrev pub modifier_span : List Token → Option Span
modifier_span ts = last_span None (take 2 ts)

-- The cell with the opcode `o`, the modifier `given` or else the default modifier, and the operands `a` and `b`.
abbrev pub cell_with : Op → Option Modifier → Mode × ℕ → Mode × ℕ → Cell
cell_with o given a b = record { op = o; modifier = unwrap_or given (default_modifier o a.0 b.0); a_mode = a.0; a = a.1; b_mode = b.0; b = b.1 }

-- The cell with the opcode `o`, the modifier `given` if one is written, and the operands in `ts`, in a core of `m` cells.
-- `names` has the values of the names, and `operation` the bytes of the operation.
abbrev pub cell_from : ℕ → (ℕ → Option ℤ) → Option Span → Op → Option Modifier → List Token → Result Cell AsmTokenProblem
cell_from m names operation o given ts =
    at_token (operands_span operation ts) (given_operands o ts) >>= λ operands.
    operand_value m names operands.a >>= λ a.
    operand_value m names operands.b >>= λ b.
    Ok (cell_with o given a b)

-- The cell of the instruction `p`. Labels are relative to the instruction.
abbrev pub cell_of : Predefined → ℕ → ProgramValue → Placed → Result Cell AsmTokenProblem
cell_of ps m source p =
    at_token (opcode_span p.line) (opcode_of source.names p.line.operation) >>= λ o.
    at_token (modifier_span p.line.rest) (split_modifier source.names p.line.rest) >>= λ rest.
    replaced source rest.1 >>= cell_from m (name_value ps source p.index p.index) p.line.operation_span o rest.0

-- The cells of the given instructions, or the error of the first one that has an error.
abbrev pub cells_of : Predefined → ℕ → ProgramValue → List Placed → Result (List Cell) AsmFault
cells_of ps m source [] = Ok []
cells_of ps m source (p ∷ rest) = at_line p.line.number (cell_of ps m source p) >>= λ c. cells_of ps m source rest >>= λ cs. Ok (c ∷ cs)

-- ---- Length, start and asserts

-- The error TooLong at the first of the given instructions, which are beyond the maximum length, if there are any.
abbrev pub none_past : List Placed → Result (Unit {0}) AsmFault
none_past [] = Ok tt
none_past (p ∷ rest) = Err (record { line = p.line.number; problem = TooLong; token = p.line.operation_span })

-- The error Empty, if no instructions are given.
abbrev pub not_empty : List Placed → Result (Unit {0}) AsmFault
not_empty [] = Err (record { line = 0; problem = Empty; token = None })
not_empty (p ∷ rest) = Ok tt

-- The error TooLong, if the instructions `is` are more than `longest`, or the error Empty, if there are none.
abbrev pub length_checked : ℕ → List Placed → Result (Unit {0}) AsmFault
length_checked longest is = none_past (drop longest is) >>= λ _. not_empty is

-- The value of a start, which must be the index of one of `count` instructions.
abbrev pub as_start : ℕ → ℤ → Result ℕ AsmProblem
as_start count (pos n) = if nat_lt n count then Ok n else Err BadOrigin
as_start count (negsuc n) = Err BadOrigin

-- The start, given by the expression `ts` on the ORG or END line `p`. Labels are relative to the first instruction, and
-- there are `count` instructions.
abbrev pub start_at : Predefined → ProgramValue → ℕ → Placed → List Token → Result ℕ AsmTokenProblem
start_at ps source count p ts =
    value_in (name_value ps source 0 p.index) p.line.operation_span ts >>= λ v. at_token (first_span ts) (as_start count v)

-- The start that the ORG line `p` sets.
abbrev pub org_start : Predefined → ProgramValue → ℕ → Placed → Result ℕ AsmTokenProblem
org_start ps source count p = replaced source p.line.rest >>= start_at ps source count p

-- The start that the END line `p` sets, given the tokens of its operand: 0 if there are none.
abbrev pub end_operand : Predefined → ProgramValue → ℕ → Placed → List Token → Result ℕ AsmTokenProblem
end_operand ps source count p [] = Ok 0
end_operand ps source count p (t ∷ ts) = start_at ps source count p (t ∷ ts)

-- The start that the END line `p` sets.
abbrev pub end_start : Predefined → ProgramValue → ℕ → Placed → Result ℕ AsmTokenProblem
end_start ps source count p = replaced source p.line.rest >>= end_operand ps source count p

-- The last of the lines for which `keeps` is true.
abbrev pub last_where : (Line → Bool) → List Placed → Option Placed
last_where keeps lines = last_or None (filter (λ p. keeps p.line) lines)

-- The start, from the last ORG and the last END, if they exist. ORG has precedence over END. Without both, the start is
-- 0.
abbrev pub start_by : Predefined → ProgramValue → ℕ → Option Placed → Option Placed → Result ℕ AsmFault
start_by ps source count (Some p) end = at_line p.line.number (org_start ps source count p)
start_by ps source count None (Some p) = at_line p.line.number (end_start ps source count p)
start_by ps source count None None = Ok 0

-- The start of a program that has `count` instructions.
abbrev pub start_of : Predefined → ProgramValue → ℕ → Result ℕ AsmFault
start_of ps source count =
    start_by ps source count (last_where (λ l. is_org source.names l.operation) (placed source)) (last_where (λ l. is_end source.names l.operation) (placed source))

-- An assert holds if its value is not 0.
abbrev pub holds : ℤ → Result (Unit {0}) AsmProblem
holds (pos zero) = Err AssertFailed
holds _ = Ok tt

-- The assert with the expression `ts` holds, if `names` has the values of names.
abbrev pub tokens_hold : (ℕ → Option ℤ) → List Token → Result (Unit {0}) AsmTokenProblem
tokens_hold names ts = value_in names None ts >>= λ v. at_token (first_span ts) (holds v)

-- The assert `a` holds. Labels have no value in an assert.
abbrev pub assert_holds : Predefined → ProgramValue → Assert → Result (Unit {0}) AsmTokenProblem
assert_holds ps source a = replaced source a.tokens >>= tokens_hold (known_value ps source a.current_line)

-- All asserts hold, or the error of the first one that does not.
abbrev pub asserts_hold : Predefined → ProgramValue → List Assert → Result (Unit {0}) AsmFault
asserts_hold ps source [] = Ok tt
asserts_hold ps source (a ∷ rest) = at_line a.number (assert_holds ps source a) >>= λ _. asserts_hold ps source rest

-- ---- The whole source

-- The warrior of the program `source` for the parameters `p`, or its first error. Errors of the instructions come
-- first, then errors of the length, of the start and of the asserts.
abbrev pub warrior_of : Predefined → Parameters → ProgramValue → Result WarriorValue AsmFault
warrior_of ps p source =
    cells_of ps p.core_size source (instructions source) >>= λ cells.
    length_checked p.max_length (instructions source) >>= λ _.
    start_of ps source (length cells) >>= λ start.
    asserts_hold ps source source.asserts >>= λ _.
    Ok (record { name = source.name; author = source.author; cells = cells; start = start })

-- The program that was read, or its error as an error of the assembler.
abbrev pub text_read : Result ProgramValue TextFault → Result ProgramValue AsmFault
text_read (Ok source) = Ok source
text_read (Err e) = Err (record { line = e.line; problem = Text e.problem; token = e.token })

-- The warrior of a source text for the parameters `p`, or its first error. `rounds` and `warriors` are the values of ROUNDS
-- and WARRIORS.
unfoldable pub assembly : Parameters → ℕ → ℕ → List ℕ → Result WarriorValue AsmFault
assembly p rounds warriors source = text_read (expansion (predefined p rounds warriors) source) >>= warrior_of (predefined p rounds warriors) p
