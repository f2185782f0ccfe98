-- There are as many cells as instructions.
use Rattle.std.proofs.Common.{◌≡◌, ◌∙◌, ℕ, suc, List, [], ◌∷◌, length, Result, Ok, Err, Vec, vec_len, ap, sym, refl, arith}
use Rattle.std.specs.Prelude.{IfOk}
use Rattle.mars_cell.specs.declared.instruction.Cell.{Cell}
use Rattle.redcode_text.specs.Results.{◌>>=◌}
use Rattle.redcode_text.specs.Expansion.{ProgramValue}
use Rattle.redcode_text.specs.Lines.{Predefined}
use Rattle.redcode_asm.specs.declared.fault.AsmFault.{AsmFault}
use Rattle.redcode_asm.specs.Assembly.{Placed, at_line, cell_of, cells_of}
use Rattle.redcode_asm.specs.Outcomes.{IsResult}

abbrev count_in : Result (List Cell) AsmFault → ℕ
count_in (Ok cells) = length cells
count_in (Err fault) = 0

count-by : (r : Result Cell AsmFault) (rest : Result (List Cell) AsmFault) (n : ℕ) (cells : List Cell) → ((others : List Cell) → rest ≡ Ok others → length others ≡ n)
    → (r >>= λ c. rest >>= λ cs. Ok (c ∷ cs)) ≡ Ok cells → length cells ≡ suc n
count-by (Ok c) (Ok others) n cells each e = sym (ap count_in e) ∙ ap suc (each others refl)
count-by (Ok c) (Err fault) n cells each e = cc
count-by (Err fault) rest n cells each e = cc

pub cells-counted : (ps : Predefined) (m : ℕ) (source : ProgramValue) (is : List Placed) (cells : List Cell) → cells_of ps m source is ≡ Ok cells → length cells ≡ length is
cells-counted ps m source [] cells e = sym (ap count_in e)
cells-counted ps m source (p ∷ is) cells e = count-by (at_line p.line.number (cell_of ps m source p)) (cells_of ps m source is) (length is) cells (cells-counted ps m source is) e

pub each_counted : {A : Type 0} (ps : Predefined) (m : ℕ) (source : ProgramValue) (is : List Placed) (r : Result (Vec Cell A) AsmFault)
    → IsResult (λ cells. cells.items) r (cells_of ps m source is) → IfOk r (λ cells. vec_len cells ≡ length is)
each_counted ps m source is (Ok cells) h = let each : length cells.items ≡ length is = cells-counted ps m source is cells.items h in omega (arith, cells.ok.0)
each_counted ps m source is (Err fault) h = tt
