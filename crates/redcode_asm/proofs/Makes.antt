-- Definitions of several steps, as equations between plain variables, one premise for each step. The premises are proved by
-- `search rules`.
use Rattle.std.proofs.Common.{◌≡◌, ◌∙◌, ℕ, ◌==◌, false, List, [], ◌∷◌, length, Option, Result, Ok, sym, refl}
use Rattle.std.proofs.lemmas.Bool.{eqb-false}
use Rattle.mars_cell.specs.declared.instruction.Cell.{Cell}
use Rattle.mars_cell.specs.declared.instruction.Modifier.{Modifier}
use Rattle.mars_cell.specs.declared.instruction.Op.{Op}
use Rattle.redcode_text.specs.declared.token.Token.{Token}
use Rattle.redcode_text.specs.Expansion.{ProgramValue}
use Rattle.redcode_text.specs.Lines.{Predefined}
use Rattle.redcode_asm.specs.declared.fault.AsmTokenProblem.{AsmTokenProblem}
use Rattle.redcode_asm.specs.Assembly.{Placed, at_token, cell_from, cell_of, modifier_span, name_value, opcode_of, opcode_span, replaced, split_modifier, end_operand, end_start, org_start, start_at}
use Rattle.redcode_asm.proofs.Failing.{bind-ok}

-- The cell of an instruction, step by step.
pub cell-made : (ps : Predefined) (m : ℕ) (source : ProgramValue) (p : Placed) (o : Op) (rest : Option Modifier × List Token) (ts : List Token) (r : Result Cell AsmTokenProblem)
    → at_token (opcode_span p.line) (opcode_of source.names p.line.operation) ≡ Ok o → at_token (modifier_span p.line.rest) (split_modifier source.names p.line.rest) ≡ Ok rest → replaced source rest.1 ≡ Ok ts
    → r ≡ cell_from m (name_value ps source p.index p.index) p.line.operation_span o rest.0 ts → cell_of ps m source p ≡ r
cell-made ps m source p o rest ts r first second third made =
    bind-ok (at_token (opcode_span p.line) (opcode_of source.names p.line.operation)) o _ first
    ∙ bind-ok (at_token (modifier_span p.line.rest) (split_modifier source.names p.line.rest)) rest _ second
    ∙ bind-ok (replaced source rest.1) ts (cell_from m (name_value ps source p.index p.index) p.line.operation_span o rest.0) third
    ∙ sym made

pub org-made : (ps : Predefined) (source : ProgramValue) (count : ℕ) (p : Placed) (ts : List Token) (r : Result ℕ AsmTokenProblem)
    → replaced source p.line.rest ≡ Ok ts → r ≡ start_at ps source count p ts → org_start ps source count p ≡ r
org-made ps source count p ts r first made = bind-ok (replaced source p.line.rest) ts (start_at ps source count p) first ∙ sym made

end-tokens : (ps : Predefined) (source : ProgramValue) (count : ℕ) (p : Placed) (ts : List Token) → ¬ (length ts ≡ 0) → end_operand ps source count p ts ≡ start_at ps source count p ts
end-tokens ps source count p [] some = absurd (some refl)
end-tokens ps source count p (t ∷ ts) some = refl

pub end-made : (ps : Predefined) (source : ProgramValue) (count : ℕ) (p : Placed) (ts : List Token) (r : Result ℕ AsmTokenProblem)
    → replaced source p.line.rest ≡ Ok ts → false ≡ (length ts == 0) → r ≡ start_at ps source count p ts → end_start ps source count p ≡ r
end-made ps source count p ts r first some made =
    bind-ok (replaced source p.line.rest) ts (end_operand ps source count p) first ∙ end-tokens ps source count p ts (eqb-false (length ts) 0 (sym some)) ∙ sym made
