use Rattle.std.proofs.Common.{◌+◌, ◌∙◌, ap, drop, sym, subst}
use Rattle.redcode_text.specs.Views.{scan_of}
use Rattle.redcode_text.specs.Code.SourceLoops.{loops_of}
use Rattle.redcode_text.specs.Code.Scanning.{one_token}
use Rattle.redcode_text.specs.Code.Problems.{Fails}
use Rattle.redcode_text.proofs.Scans.{scan-token, scan-fails}
use Rattle.redcode_text.proofs.lexer.read_tokens.Goals as goal

pub loop-at-preserved : goal.loop-at-preserved
loop-at-preserved c =
    let text = c.args.text in let at = c.loop-at.at in
    record {
      within = c.in-Ok.ensures.len.1;
      same =
          sym (scan-token (loops_of c.args.names.now) text.number c.args.room text.at at text.bytes.now (scan_of c.loop-at.tokens c.loop-at.names.table) (scan_of c.add_token.new.tokens c.add_token.new.names.table) c.in-Ok.len c.loop-at-test.true (sym c.is_blank.ensures ∙ c.if-is_blank.false) c.in-Ok.ensures.len.0
          (ap (λ loops. one_token loops text.number c.args.room (text.at + at) (drop at text.bytes.now) (scan_of c.loop-at.tokens c.loop-at.names.table)) (sym c.loop-at.invariant.loops) ∙ c.in-Ok.ensures.value))
          ∙ c.loop-at.invariant.same;
      room = c.in-Ok.ensures.room c.loop-at.invariant.room;
      loops = c.in-Ok.ensures.loops ∙ c.loop-at.invariant.loops;
    }

pub returns-in-Err-clause-value : goal.returns-in-Err-clause-value
returns-in-Err-clause-value c =
    let text = c.args.text in let at = c.loop-at.at in
    subst (Fails c.in-Err.problem) c.loop-at.invariant.same (scan-fails (loops_of c.args.names.now) text.number c.args.room text.at at text.bytes.now (scan_of c.loop-at.tokens c.loop-at.names.table) c.in-Err.problem c.loop-at-test.true (sym c.is_blank.ensures ∙ c.if-is_blank.false)
    (subst (λ loops. Fails c.in-Err.problem (one_token loops text.number c.args.room (text.at + at) (drop at text.bytes.now) (scan_of c.loop-at.tokens c.loop-at.names.table))) c.loop-at.invariant.loops c.in-Err.ensures.value))
