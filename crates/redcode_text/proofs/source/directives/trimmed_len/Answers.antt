use Rattle.std.proofs.Common.{◌∙◌, sym, arith}
use Rattle.redcode_text.proofs.TextSteps.{trim-one}
use Rattle.redcode_text.proofs.source.directives.trimmed_len.Goals as goal

pub loop-len-preserved : goal.loop-len-preserved
loop-len-preserved c =
    record {
      within = omega (arith, c.loop-len.invariant.within);
      same = trim-one c.args.text.now c.loop-len.len c.loop-len-test.true c.loop-len.invariant.within (sym c.is_blank.ensures ∙ c.if-not-is_blank.false) ∙ c.loop-len.invariant.same;
    }
