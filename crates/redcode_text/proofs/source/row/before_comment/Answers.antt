use Rattle.std.proofs.Common.{◌∙◌, ap, take}
use Rattle.redcode_text.proofs.RowTokens.{comment-first}
use Rattle.redcode_text.proofs.source.row.before_comment.Goals as goal

pub returns-clause-value : goal.returns-clause-value
returns-clause-value c = ap (λ n. take n c.args.bytes.now) c.code_len.ensures.value ∙ comment-first c.args.bytes.now
