use Rattle.std.proofs.Common.{◌∙◌, ap}
use Rattle.std.specs.Prelude.{is_some}
use Rattle.redcode_text.specs.Views.{predefined_of}
use Rattle.redcode_text.specs.Lines.{predefined_value, with_current_line}
use Rattle.redcode_text.proofs.reader.Reading.is_predefined.Goals as goal

pub returns : goal.returns
returns c = c.is_some.ensures ∙ ap is_some (c.value_at.ensures ∙ ap (predefined_value (with_current_line (predefined_of c.args.names.now) 0)) c.name.ensures)
