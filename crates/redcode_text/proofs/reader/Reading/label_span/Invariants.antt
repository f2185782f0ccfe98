use Rattle.std.proofs.Common.{◌≡◌, drop}
use Rattle.redcode_text.specs.Expansion.{label_span}
use Rattle.redcode_text.specs.Views.{predefined_of}
use Rattle.redcode_text.specs.Code.Readings.{reading_of}
use Rattle.redcode_text.proofs.reader.Reading.label_span.Given as goal

abbrev pub invariant-loop-token : goal.invariant-loop-token
invariant-loop-token l = label_span (predefined_of l.names) (reading_of l.self) (drop l.token-index l.tokens) ≡ label_span (predefined_of l.names) (reading_of l.self) l.tokens
