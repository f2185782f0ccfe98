use Rattle.std.proofs.Common.{◌∙◌, ◌+◌, ap, sym}
use Rattle.redcode_text.specs.Code.Readings.{reading_of}
use Rattle.redcode_text.specs.Code.Rows.{row_of}
use Rattle.redcode_text.specs.Lines.{name_in_front, tokens_before}
use Rattle.redcode_text.proofs.BelowNames.{counter-there}
use Rattle.redcode_text.proofs.reader.Reading.read_head.Goals as goal

pub returns-clause-there : goal.returns-clause-there
returns-clause-there c =
    let row = c.args.row in let at = row.at + c.args.word_at in let tokens = c.in_ok-tokens.tokens.items in
    (counter-there (row_of row) 0 (reading_of c.count_line.new.self) (reading_of c.row_tokens.new.self) tokens at c.in_ok-name.name c.in_ok-tokens.ensures.value
    (ap (λ ts. name_in_front (tokens_before at ts)) (sym c.deref.ensures.value) ∙ sym c.name_in_front.ensures ∙ c.in_ok-name.was))
