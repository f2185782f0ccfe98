use Rattle.std.proofs.Common.{◌≡◌, ◌∙◌, ap, arith}
use Rattle.redcode_text.specs.declared.source.row.SourceRow as code
use Rattle.redcode_text.specs.Source.{ForLine, line_kind}
use Rattle.redcode_text.proofs.PairSteps.{ends-for}
use Rattle.redcode_text.proofs.source.end_from.Goals as goal

pub returns-else-last-rows : goal.returns-else-last-rows
returns-else-last-rows c =
    let inner = c.requires.known c.args.first (omega arith) c.if-first-rows.false in
    let row = c.index-rows-first.result in
    let kind : ForLine c.in-For.field-0 ≡ line_kind row.bytes.now = c.in-For.ensures.value in
    ends-for c.args.rows.now c.args.first _ _ _ row c.if-first-rows.false c.if-last-rows.false (kind ∙ ap (λ (w : code.SourceRow). line_kind w.bytes.now) c.index-rows-first.is) inner (c.requires.known _ (omega (arith, inner.from)) c.if-last-rows.false)
