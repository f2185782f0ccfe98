use Rattle.std.proofs.Common.{◌≡◌, map, string_bytes, take}
use Rattle.redcode_text.specs.Lines.{printable}
use Rattle.redcode_text.proofs.source.directives.printed.Given as goal

abbrev pub invariant-loop-byte : goal.invariant-loop-byte
invariant-loop-byte l = string_bytes l.text ≡ map printable (take l.byte-index l.bytes)
