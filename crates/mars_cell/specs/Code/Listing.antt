-- The state of the reader of load files, line after line.
use Rattle.std.specs.Prelude.{◌≡◌, ⊤, ℕ, ℤ, ◌+◌, List, [], ◌∷◌, ◌++◌, Option, None, Some, Result, Ok, Err}
use Rattle.mars_cell.specs.declared.header.Header.{Header}
use Rattle.mars_cell.specs.declared.instruction.Cell.{Cell}
use Rattle.mars_cell.specs.declared.statements.Statement.{Statement}
use Rattle.mars_cell.specs.declared.statements.Statement.TheVariants as statement
use Rattle.mars_cell.specs.declared.load.ReadListing.{ReadListing}
use Rattle.mars_cell.specs.declared.fault.LoadFault.{LoadFault}
use Rattle.mars_cell.specs.declared.fault.LoadFault.TheVariants as fault
use Rattle.mars_cell.specs.Cells.{FitsCore}
use Rattle.mars_cell.specs.Header.{HeaderValue}
use Rattle.mars_cell.specs.Load.{line_statement}

-- The header of the specification that the code's header `h` represents.
abbrev pub header_value : Header → HeaderValue
header_value h = record { written = h.written; name = h.name.now; author = h.author.now }

-- The cell of a statement, if it has one, fits a core of `m` cells.
abbrev pub StatementFits : ℕ → Statement → Type 0
StatementFits m statement.Nothing = ⊤
StatementFits m (statement.Origin n) = ⊤
StatementFits m (statement.End n) = ⊤
StatementFits m (statement.Instruction c) = FitsCore m c

-- The statements that were read so far: the cells, and the numbers of the last ORG and of END.
pub record Listing : Type 0 where
  pub cells : List Cell
  pub origin : Option ℤ
  pub end : Option ℤ

-- The listing before the first line.
abbrev pub nothing_read : Listing
nothing_read = record { cells = []; origin = None; end = None }

-- The listing that a `ReadListing` of the code represents.
abbrev pub listing : ReadListing → Listing
listing r = record { cells = r.cells.items; origin = r.origin; end = r.end }

-- The listing after all lines up to END, or the number of the first invalid line. The first line has the number `k`,
-- and `s` was read before it. The file was written for a core of `written` cells and is read for a core of `m` cells.
unfoldable pub load_from : ℕ → ℕ → ℕ → Listing → List (List ℕ) → Result Listing ℕ
load_from written m k s [] = Ok s
load_from written m k s (l ∷ ls) = elim (line_statement written m l) [
  | None ↦ Err k
  | Some x ↦ elim x [
    | statement.Nothing ↦ load_from written m (k + 1) s ls
    | statement.Origin n ↦ load_from written m (k + 1) (record s { origin = Some n }) ls
    | statement.End n ↦ Ok (record s { end = n })
    | statement.Instruction c ↦ load_from written m (k + 1) (record s { cells = s.cells ++ c ∷ [] }) ls
  ]
]

-- The result of reading is the listing or the number of the invalid line that `read` has, unless an allocation failed.
abbrev pub ReadsListing : Result ReadListing LoadFault → Result Listing ℕ → Type 0
ReadsListing (Ok r) read = read ≡ Ok (listing r)
ReadsListing (Err fault.OutOfMemory) read = ⊤
ReadsListing (Err (fault.Syntax k)) read = read ≡ Err k
ReadsListing (Err _) read = ⊥
