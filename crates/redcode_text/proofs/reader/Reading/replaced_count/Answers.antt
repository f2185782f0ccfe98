use Rattle.std.proofs.Common.{◌∙◌, sym}
use Rattle.redcode_text.specs.Lines.{name_at, predefined_value, with_current_line}
use Rattle.redcode_text.specs.Views.{predefined_of}
use Rattle.redcode_text.specs.Code.Readings.{reading_of}
use Rattle.redcode_text.proofs.CountSteps.{count-is, valued}
use Rattle.redcode_text.proofs.reader.Reading.replaced_count.Goals as goal

pub returns-in-None : goal.returns-in-None
returns-in-None c =
    let names = c.count_names.ensures in let us = c.args.tokens.now in
    count-is (predefined_of c.args.names.now) (reading_of c.args.self.now) c.args.before us c.counted.result (sym c.label_span.ensures ∙ c.in-None.is)
    (c.counted.ensures
    ∙ (λ i. valued c.args.before us (λ n. predefined_value (with_current_line (predefined_of (names.predefined i)) (names.line i)) (name_at (names.names i) n))))
