use Rattle.std.proofs.Common.{◌∙◌, ap}
use Rattle.redcode_text.specs.Views.{predefined_of}
use Rattle.redcode_text.specs.Lines.{predefined_value, with_current_line}
use Rattle.redcode_text.proofs.reader.repeat.head.CountNamesEnv.value.Goals as goal

pub returns : goal.returns
returns c =
    let names = c.args.self.now in
    c.value_at.ensures ∙ ap (predefined_value (with_current_line (predefined_of names.predefined.now) names.current_line)) c.name.ensures
