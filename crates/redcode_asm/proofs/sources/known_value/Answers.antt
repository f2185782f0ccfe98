use Rattle.std.proofs.Common.{◌∙◌, ap}
use Rattle.redcode_text.specs.Views.{predefined_of}
use Rattle.redcode_text.specs.Lines.{predefined_value, with_current_line}
use Rattle.redcode_asm.proofs.sources.known_value.Goals as goal

pub returns : goal.returns
returns c = c.value_at.ensures ∙ ap (predefined_value (with_current_line (predefined_of c.args.predefined.now) c.args.current_line)) c.name.ensures
