use Rattle.std.proofs.Common.{◌∙◌, sym}
use Rattle.redcode_text.specs.Code.SourceLoops.{loops_of}
use Rattle.redcode_text.proofs.Scans.{sign-at}
use Rattle.redcode_text.proofs.lexer.read_token.Goals as goal

pub returns-clause-value : goal.returns-clause-value
returns-clause-value c =
    sign-at (loops_of c.args.names.now) c.args.names.now.table c.args.bytes.now c.read_sign.result c.in-len1-up.len_at_least (sym c.if-not-is_ascii.ensures) (sym c.begins_word.ensures ∙ c.if-begins_word.false) c.read_sign.ensures.value
