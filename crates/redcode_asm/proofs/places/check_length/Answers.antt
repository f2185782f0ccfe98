use Rattle.std.proofs.Common.{◌∙◌, ap, arith, rules}
use Rattle.redcode_asm.specs.Assembly.{none_past}
use Rattle.redcode_asm.proofs.Past.{past-instruction, past-other}
use Rattle.redcode_asm.proofs.places.check_length.Goals as goal
use Rattle.redcode_asm.proofs.places.check_length.Goals.{then-is_instruction+else-index-longest, else-is_instruction}

pub loop-line-preserved : goal.loop-line-preserved
loop-line-preserved c = elim c.if-is_instruction.branch [
  | then-is_instruction+else-index-longest w ↦ record {
    few = omega arith;
    within = omega arith;
    same =
        ap none_past (past-instruction c.args.names.now c.args.longest c.loop-line.index c.if-is_instruction.index c.loop-line.line-index c.args.lines.now c.line-item.result
        c.loop-line-test.true c.line-item.is w.index-is w.if-index-longest.false (search rules))
        ∙ c.loop-line.invariant.same;
  }
  | else-is_instruction w ↦ record {
    few = omega arith;
    within = omega arith;
    same =
        ap none_past (past-other c.args.names.now c.args.longest c.loop-line.index c.if-is_instruction.index c.loop-line.line-index c.args.lines.now c.line-item.result
        c.loop-line-test.true c.line-item.is w.index-is (search rules))
        ∙ c.loop-line.invariant.same;
  }
]
