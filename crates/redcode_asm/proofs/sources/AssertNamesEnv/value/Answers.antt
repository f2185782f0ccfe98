use Rattle.std.proofs.Common.{◌∙◌, ap}
use Rattle.redcode_text.specs.Views.{predefined_of}
use Rattle.redcode_text.specs.Lines.{name_at, predefined_value, with_current_line}
use Rattle.redcode_asm.proofs.sources.AssertNamesEnv.value.Goals as goal

pub returns : goal.returns
returns c =
    c.known_value.ensures
    ∙ ap (λ names. predefined_value (with_current_line (predefined_of c.args.self.now.source.predefined.now) c.args.self.now.index) (name_at names c.args.name)) c.names.ensures
