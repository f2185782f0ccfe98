-- There are as many lines as cells.
use Rattle.std.proofs.Common.{◌≡◌, ◌∙◌, length, Result, Ok, Err, refl, subst, sym}
use Rattle.std.specs.Prelude.{IfOk}
use Rattle.std.proofs.lemmas.List.{length-map}
use Rattle.mars_cell.specs.Parameters.{Parameters}
use Rattle.mars_cell.specs.Warriors.{WarriorValue}
use Rattle.redcode_text.specs.Results.{◌>>=◌}
use Rattle.redcode_text.specs.Expansion.{ProgramValue}
use Rattle.redcode_text.specs.Lines.{Predefined}
use Rattle.redcode_asm.specs.Assembly.{asserts_hold, cells_of, instructions, length_checked, start_of, warrior_of}
use Rattle.redcode_asm.specs.SourceLines.{cell_line, program_lines}
use Rattle.redcode_asm.proofs.Counts.{cells-counted}

-- What holds after the second of two steps, if the first one succeeds, holds after both.
and_then : {A B E : Type 0} (P : B → Type 0) (r : Result A E) (f : A → Result B E) → ((a : A) → r ≡ Ok a → IfOk (f a) P) → IfOk (r >>= f) P
and_then P (Ok a) f each = each a refl
and_then P (Err e) f each = tt

pub one_each : (ps : Predefined) (p : Parameters) (source : ProgramValue) (w : WarriorValue) → warrior_of ps p source ≡ Ok w
    → length (program_lines source).lines ≡ length w.cells
one_each ps p source w e =
    let is = instructions source in
    let Is : WarriorValue → Type 0 = λ w. length (program_lines source).lines ≡ length w.cells in
    let all : IfOk (warrior_of ps p source) Is =
    and_then Is (cells_of ps p.core_size source is) _ (λ cells made.
    and_then Is (length_checked p.max_length is) _ (λ _ _.
    and_then Is (start_of ps source (length cells)) _ (λ _ _.
    and_then Is (asserts_hold ps source source.asserts) _ (λ _ _.
    length-map is (cell_line source) ∙ sym (cells-counted ps p.core_size source is cells made))))) in
    subst (λ r. IfOk r Is) e all
