use Rattle.std.proofs.Common.{◌<◌, ◌∙◌, ap, length, sym}
use Rattle.redcode_text.specs.Views.{predefined_of}
use Rattle.redcode_text.specs.Code.Readings.{reading_of}
use Rattle.redcode_text.specs.Lines.{ordinary_line}
use Rattle.redcode_text.specs.Code.Rows.{row_of}
use Rattle.redcode_text.proofs.PlainSteps.{plain-ordinary, some-there}
use Rattle.redcode_text.proofs.reader.Reading.read_kind.Goals as goal

pub returns-in_default : goal.returns-in_default
returns-in_default c =
    let ps = predefined_of c.args.names.now in let st = reading_of c.args.self.now in
    let some : 0 < length c.args.tokens.items = some-there c.args.tokens.items c.args.tokens.len c.if-is_empty.ensures c.args.tokens.ok.0 in
    record { value = rw (plain-ordinary ps c.args.kind (row_of c.args.row) c.args.tokens.items st c.in_default.not-Equ some ∙ ap (λ l. ordinary_line ps c.args.row.number 32 l st) (sym c.deref.ensures.value)) c.read_ordinary.ensures.value }
