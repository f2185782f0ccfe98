-- The laws of names, of an instruction in front of a program, of load files and of score formulas.
use Rattle.std.specs.Prelude.{◌≡◌, ◌≢◌, ⊤, ℕ, ℤ, List, [], ◌∷◌, true, Ok, IfErr, codes}
use Rattle.std.specs.Str.{str_eq_ignore_ascii_case}
use Rattle.mars_cell.specs.Load.{load}
use Rattle.mars_cell.specs.Parameters.{Parameters, AreInRange}
use Rattle.mars_cell.specs.Warriors.{WarriorValue}
use Rattle.mars_cell.specs.Words.{op_of, modifier_of}
use Rattle.mars_cell.specs.Written.{load_text}
use Rattle.redcode_text.specs.Results.{◌>>=◌}
use Rattle.redcode_text.specs.declared.fault.ExprFault.{ExprFault}
use Rattle.redcode_text.specs.declared.fault.ExprFault.TheVariants.{DivideByZero, Range}
use Rattle.redcode_text.specs.Tokens.{Scanned}
use Rattle.redcode_text.specs.Expansion.{ProgramValue}
use Rattle.redcode_text.specs.Lines.{Line, Predefined, is_instruction, name_at, predefined_value, with_current_line}
use Rattle.redcode_asm.specs.Assembly.{assembly, at_line, cell_of, cells_of, instructions, warrior_of}
use Rattle.redcode_asm.specs.Formula.{formula_of, score_of}

-- An error that depends on the values in an expression.
abbrev pub IsValueFault : ExprFault → Type 0
IsValueFault DivideByZero = ⊤
IsValueFault Range = ⊤
IsValueFault _ = ⊥

-- A formula that was accepted has a value for all `w` and `s`, unless it divides by zero or a value is out of range.
abbrev pub ScoresHaveValues : Type 0
ScoresHaveValues = (text : List ℕ) (f : Scanned) (w s : ℤ) → formula_of text ≡ Ok f → IfErr (score_of f w s) IsValueFault

-- The load file of the warrior that a source is assembled to is read back, with the same parameters, as that warrior.
abbrev pub AssembledLoadIsRead : Type 0
AssembledLoadIsRead = (p : Parameters) (rounds warriors : ℕ) (source : List ℕ) (w : WarriorValue) → AreInRange p → assembly p rounds warriors source ≡ Ok w
    → load p.core_size p.max_length (load_text p.core_size w) ≡ Ok w

-- The names `one` and `other` have the same meaning, whether as an operation, as a modifier or, at any instruction, in
-- an expression.
pub record SaysTheSame (ps : Predefined) (one other : List ℕ) : Type 0 where
  pub opcode : op_of one ≡ op_of other
  pub modifier : modifier_of one ≡ modifier_of other
  pub org : str_eq_ignore_ascii_case one (codes "org") ≡ str_eq_ignore_ascii_case other (codes "org")
  pub end : str_eq_ignore_ascii_case one (codes "end") ≡ str_eq_ignore_ascii_case other (codes "end")
  pub value : (instructions : ℕ) → predefined_value (with_current_line ps instructions) one ≡ predefined_value (with_current_line ps instructions) other

-- Names are free: if each name of a program is replaced by a name with the same meaning, the program is assembled to
-- the same warrior or has the same error. So labels and EQU names can be chosen freely.
abbrev pub NamesAreFree : Type 0
NamesAreFree = (ps : Predefined) (p : Parameters) (source : ProgramValue) (names : List (List ℕ)) → ((n : ℕ) → SaysTheSame ps (name_at source.names n) (name_at names n))
    → warrior_of ps p source ≡ warrior_of ps p (record source { names = names })

-- The program `source` with the line `l` added in front.
abbrev pub with_line_in_front : Line → ProgramValue → ProgramValue
with_line_in_front l source = record source { lines = l ∷ source.lines }

-- An instruction in front moves nothing. If the instruction `l` has no label, and no name of the program is CURLINE, then
-- the cells of the longer program are the cell of `l`, followed by the unchanged cells of `source`. An error in `l` comes
-- first, and an error in another instruction is unchanged.
abbrev pub PrependedInstructionsKeepCells : Type 0
PrependedInstructionsKeepCells = (ps : Predefined) (m : ℕ) (source : ProgramValue) (l : Line) → is_instruction source.names l.operation l.rest ≡ true → l.labels ≡ []
    → ((n : ℕ) → name_at source.names n ≢ codes "CURLINE") →
    let front = with_line_in_front l source in
    cells_of ps m front (instructions front)
    ≡ (at_line l.number (cell_of ps m front (record { index = 0; line = l })) >>= λ c. cells_of ps m source (instructions source) >>= λ cs. Ok (c ∷ cs))
