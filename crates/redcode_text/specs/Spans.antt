-- The bytes of tokens in the source.
use Rattle.std.specs.Prelude.{List, [], ◌∷◌, Option, Some, None, map}
use Rattle.std.specs.List.{last_or}
use Rattle.redcode_text.specs.declared.token.Span.{Span}
use Rattle.redcode_text.specs.declared.token.Token.{Token}

-- The bytes of the token `t`.
abbrev pub span_of : Token → Span
span_of t = record { from = t.from; to = t.to }

-- The bytes of the first token, if there is one.
abbrev pub first_span : List Token → Option Span
first_span [] = None
first_span (t ∷ ts) = Some (span_of t)

-- The bytes of the last token of `ts`, or `before` if there are no tokens.
abbrev pub last_span : Option Span → List Token → Option Span
last_span before ts = last_or before (map span_of ts)
