use Rattle.std.proofs.Common.{◌≡◌, ◌∙◌, ◌+◌, Ok, ap, arith, length, sym}
use Rattle.std.proofs.lemmas.List.{take_rest}
use Rattle.redcode_text.proofs.RowTokens.{row-ok, row-fails}
use Rattle.redcode_text.specs.Lines.{before_comment}
use Rattle.redcode_text.specs.Code.Readings.{reading_of}
use Rattle.redcode_text.specs.Views.{scan_of}
use Rattle.redcode_text.specs.Code.Rows.{row_of}
use Rattle.redcode_text.proofs.reader.Reading.row_tokens.Goals as goal

pub returns-in-Ok-clause-value : goal.returns-in-Ok-clause-value
returns-in-Ok-clause-value c =
    let read = c.read_tokens.new.tokens in
    let count : c.len.result ≡ length read.items = omega (arith, c.len.ensures, read.ok.0) in
    row-ok (reading_of c.args.self.now) (row_of c.args.row) c.args.at _ c.new-tokens.result.items (c.before_comment.ensures.value ∙ ap before_comment (take_rest c.args.row.bytes.now c.args.at)) c.new-tokens.ensures.items
    (scan_of read c.read_tokens.new.names.table) c.len.result count c.in-Ok.ensures.value
    ∙ (λ i. Ok (read.items, record (reading_of c.args.self.now) { loops = sym c.in-Ok.ensures.loops i; names = c.read_tokens.new.names.table; tokens_read = c.args.self.now.tokens_read + c.len.result }))

pub returns-in-Err-clause-value : goal.returns-in-Err-clause-value
returns-in-Err-clause-value c =
    row-fails (reading_of c.args.self.now) (row_of c.args.row) c.args.at _ c.new-tokens.result.items (c.before_comment.ensures.value ∙ ap before_comment (take_rest c.args.row.bytes.now c.args.at)) c.new-tokens.ensures.items
    c.in-Err.problem c.in-Err.ensures.value
