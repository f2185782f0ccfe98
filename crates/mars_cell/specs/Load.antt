-- How load files of version 1 and of version 2 are read.
use Rattle.std.specs.Prelude.{◌≡◌, ⊤, ℕ, ◌+◌, ℤ, pos, negsuc, Bool, false, not, ◌==◌, nat_lt, List, [], ◌∷◌, length, drop, Option, None, Some, option_map, unwrap_or, Result, Ok, Err, if◌then◌else◌, codes}
use Rattle.std.specs.Int.RustNames.{unsigned_abs}
use Rattle.std.specs.List.{take_while, flat_map, last_or}
use Rattle.std.specs.Option.{option_or, option_to_list}
use Rattle.std.specs.Str.{str_eq_ignore_ascii_case}
use Rattle.mars_cell.specs.declared.instruction.Cell.{Cell}
use Rattle.mars_cell.specs.declared.statements.Statement.{Statement}
use Rattle.mars_cell.specs.declared.statements.Statement.TheVariants as statement
use Rattle.mars_cell.specs.declared.fault.LoadFault.{LoadFault}
use Rattle.mars_cell.specs.declared.fault.LoadFault.TheVariants as fault
use Rattle.mars_cell.specs.Parts.{parts, onto_first}
use Rattle.mars_cell.specs.Numbers.{parse_number}
use Rattle.mars_cell.specs.Grammar.{cell_of}
use Rattle.mars_cell.specs.Header.{HeaderValue, ◌>>=◌, header_of, no_header, has_version}
use Rattle.mars_cell.specs.Warriors.{WarriorValue}

-- The lines of a list of bytes, without their LF; the last line may have no LF.
unfoldable pub lines_of : List ℕ → List (List ℕ)
lines_of [] = []
lines_of (b ∷ bs) = if b == 10 then [] ∷ lines_of bs else onto_first b (lines_of bs)

-- The line `l` up to its comment, which begins with `;`.
abbrev pub before_comment : List ℕ → List ℕ
before_comment l = take_while (λ b. not (b == 59)) l

-- The number that the only part forms, if there is exactly one part and it is a number.
unfoldable pub only_number : List (List ℕ) → Option ℤ
only_number [] = None
only_number (p ∷ []) = parse_number p
only_number (p ∷ q ∷ ps) = None

-- The number after END, if there is one, given the parts after END. No other part is valid.
unfoldable pub end_of : List (List ℕ) → Option (Option ℤ)
end_of [] = Some None
end_of (p ∷ ps) = option_map (λ n. Some n) (only_number (p ∷ ps))

-- The statement that the parts of a line form in a core of `m` cells, if the file was written for a core of `written` cells.
unfoldable pub statement_of : ℕ → ℕ → List (List ℕ) → Option Statement
statement_of written m [] = Some statement.Nothing
statement_of written m (p ∷ ps) =
    if str_eq_ignore_ascii_case p (codes "ORG") then option_map (λ n. statement.Origin n) (only_number ps) else
    if str_eq_ignore_ascii_case p (codes "END") then option_map (λ n. statement.End n) (end_of ps) else
    option_map (λ c. statement.Instruction c) (cell_of written m (p ∷ ps))

-- The statement of the line `l` in a core of `m` cells, if the file was written for a core of `written` cells, or none
-- if the line is invalid.
abbrev pub line_statement : ℕ → ℕ → List ℕ → Option Statement
line_statement written m l = statement_of written m (parts (before_comment l))

-- The statement `s` followed by the statements of the next lines, or the number of the first invalid line among them.
abbrev pub with_rest : Statement → Result (List Statement) ℕ → Result (List Statement) ℕ
with_rest s (Ok ss) = Ok (s ∷ ss)
with_rest s (Err k) = Err k

-- The statement of a line, followed by the statements of the next lines unless it is END. After END no line is read.
abbrev pub statements_from : Statement → Result (List Statement) ℕ → Result (List Statement) ℕ
statements_from (statement.End n) rest = Ok (statement.End n ∷ [])
statements_from statement.Nothing rest = with_rest statement.Nothing rest
statements_from (statement.Origin n) rest = with_rest (statement.Origin n) rest
statements_from (statement.Instruction c) rest = with_rest (statement.Instruction c) rest

-- The statements of the lines up to END, or the number of the first invalid line. The first line has the number `k`.
-- The file was written for a core of `written` cells and is read for a core of `m` cells.
unfoldable pub statements : ℕ → ℕ → ℕ → List (List ℕ) → Result (List Statement) ℕ
statements written m k [] = Ok []
statements written m k (l ∷ ls) = elim (line_statement written m l) [
  | None ↦ Err k
  | Some s ↦ statements_from s (statements written m (k + 1) ls)
]

-- The cell of a statement, as a list of at most one.
abbrev pub cell_in : Statement → List Cell
cell_in statement.Nothing = []
cell_in (statement.Origin n) = []
cell_in (statement.End n) = []
cell_in (statement.Instruction c) = c ∷ []

-- The start that an ORG gives, as a list of at most one.
abbrev pub origin_in : Statement → List ℤ
origin_in statement.Nothing = []
origin_in (statement.Origin n) = n ∷ []
origin_in (statement.End n) = []
origin_in (statement.Instruction c) = []

-- The start that an END gives, as a list of at most one.
abbrev pub end_in : Statement → List ℤ
end_in statement.Nothing = []
end_in (statement.Origin n) = []
end_in (statement.End n) = option_to_list n
end_in (statement.Instruction c) = []

-- The cells of the statements, in order.
abbrev pub cells_of : List Statement → List Cell
cells_of ss = flat_map cell_in ss

-- The start of a warrior: the number of the last ORG, else the number of END, else 0.
abbrev pub start_of : List Statement → ℤ
start_of ss = unwrap_or (option_or (last_or None (flat_map origin_in ss)) (last_or None (flat_map end_in ss))) (pos 0)

-- The given integer is at least 0 and below `len`.
abbrev pub is_index : ℤ → ℕ → Bool
is_index (pos n) len = nat_lt n len
is_index (negsuc n) len = false

-- The warrior of the header `h` and the statements `ss`, or the first error. A warrior has at most `longest` cells.
abbrev pub warrior_of : HeaderValue → ℕ → List Statement → Result WarriorValue LoadFault
warrior_of h longest ss =
    if nat_lt longest (length (cells_of ss)) then Err fault.TooLong
    else if length (cells_of ss) == 0 then Err fault.Empty
    else if is_index (start_of ss) (length (cells_of ss)) then Ok (record { name = h.name; author = h.author; cells = cells_of ss; start = unsigned_abs (start_of ss) })
    else Err fault.BadOrigin

-- The warrior of the header `h` and the lines `ls` after it, in a core of `m` cells. The first of the lines has the
-- number `k`, and a warrior has at most `longest` cells. An invalid line comes before all other errors.
unfoldable pub body : HeaderValue → ℕ → ℕ → ℕ → List (List ℕ) → Result WarriorValue LoadFault
body h m longest k ls = elim (statements h.written m k ls) [
  | Err j ↦ Err (fault.Syntax j)
  | Ok ss ↦ warrior_of h longest ss
]

-- The warrior of a load file in a core of `m` cells, or the first error. A warrior has at most `longest` cells.
unfoldable pub load : ℕ → ℕ → List ℕ → Result WarriorValue LoadFault
load m longest bytes =
    if has_version bytes then (header_of (lines_of bytes) >>= λ h. body h m longest 4 (drop 3 (lines_of bytes)))
    else body (no_header m) m longest 1 (lines_of bytes)

-- The result of reading is `defined`, unless an allocation failed.
abbrev pub Loads : Result WarriorValue LoadFault → Result WarriorValue LoadFault → Type 0
Loads (Ok w) defined = defined ≡ Ok w
Loads (Err fault.OutOfMemory) defined = ⊤
Loads (Err f) defined = defined ≡ Err f
