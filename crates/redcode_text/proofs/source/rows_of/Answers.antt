use Rattle.std.proofs.Common.{◌+◌, ◌∙◌, ◌++◌, ◌∷◌, ap, sym, arith, drop, length-drop, map}
use Rattle.std.proofs.lemmas.List.{take_rest}
use Rattle.redcode_text.specs.Code.Rows.{row_of}
use Rattle.redcode_text.specs.Source.{lines_of, rows_from}
use Rattle.redcode_text.proofs.SourceLines.{map-snoc, row-step}
use Rattle.redcode_text.proofs.source.rows_of.Goals as goal

pub loop-at-preserved : goal.loop-at-preserved
loop-at-preserved c =
    let source = c.args.source.now in let at = c.loop-at.at in let p = c.line_len.result in
    record {
      within = omega (arith, simp (take_rest, length-drop) at c.line_len.ensures.within);
      few = omega arith;
      same =
          ap (λ l. map row_of l ++ rows_from (c.loop-at.number + 1) (at + p + 1) (lines_of (drop (at + p + 1) source))) c.in-Ok.ensures.items
          ∙ map-snoc row_of c.loop-at.rows.items c.new-row.result (rows_from (c.loop-at.number + 1) (at + p + 1) (lines_of (drop (at + p + 1) source)))
          ∙ ap (λ r. map row_of c.loop-at.rows.items ++ r ∷ rows_from (c.loop-at.number + 1) (at + p + 1) (lines_of (drop (at + p + 1) source))) c.new-row.ensures
          ∙ ap (λ l. map row_of c.loop-at.rows.items ++ l) (sym (row-step source c.loop-at.number at p c.loop-at-test.true c.line_len.ensures.value c.line_len.ensures.within))
          ∙ c.loop-at.invariant.same;
    }
