use Rattle.std.proofs.Common.{◌∙◌, ap, sym, length}
use Rattle.std.proofs.lemmas.Bool.{eqb-true, eqb-false}
use Rattle.redcode_asm.specs.Assembly.{full_operands, parts_at_commas}
use Rattle.redcode_asm.proofs.Commas.{given-full, first-empty, rest-empty, third-operand}
use Rattle.redcode_asm.proofs.operands.split_operands.Goals as goal
use Rattle.redcode_asm.proofs.operands.split_operands.Goals.{then-is_empty-2-via-then-is_empty-2, then-is_empty-2-via-else-is_empty-2+then-is_empty-3}

pub returns-then-is_empty-2 : goal.returns-then-is_empty-2
returns-then-is_empty-2 c =
    given-full c.args.op c.args.tokens.now (eqb-false (length c.args.tokens.now) 0 (sym c.if-is_empty.ensures)) ∙ ap (full_operands c.args.op) c.in-Some.ensures
    ∙ elim c.then-is_empty-2.branch [
      | then-is_empty-2-via-then-is_empty-2 w ↦ first-empty c.args.op c.in-Some.first.now (parts_at_commas c.in-Some.rest.now) (eqb-true _ 0 (sym w.if-is_empty-2.ensures))
      | then-is_empty-2-via-else-is_empty-2+then-is_empty-3 w ↦ rest-empty c.args.op c.in-Some.first.now c.in-Some.rest.now (eqb-true _ 0 (sym w.if-is_empty-3.ensures))
    ]

pub returns-in-Some-split_comma : goal.returns-in-Some-split_comma
returns-in-Some-split_comma c =
    given-full c.args.op c.args.tokens.now (eqb-false (length c.args.tokens.now) 0 (sym c.if-is_empty.ensures)) ∙ ap (full_operands c.args.op) c.in-Some.ensures
    ∙ third-operand c.args.op c.in-Some.first.now _ c.in-Some.rest.now c.in-Some-split_comma.field-0.1.now c.in-Some-split_comma.ensures
