-- The token at the last index gives the bytes of the last token.
use Rattle.std.proofs.Common.{◌≡◌, ◌∙◌, suc, ◌-◌, ◌<◌, List, length, take, Option, Some, ap, sym, arith}
use Rattle.std.specs.Prelude.{slice_get}
use Rattle.std.proofs.Math.Seq.{take-length}
use Rattle.std.proofs.lemmas.Option.{get_or_from_slice_get, slice_get_within}
use Rattle.redcode_text.specs.declared.token.Span.{Span}
use Rattle.redcode_text.specs.declared.token.Token.{Token}
use Rattle.redcode_text.specs.Spans.{last_span, span_of}
use Rattle.redcode_text.proofs.PartSteps.{last-taken}

pub last-there : (before : Option Span) (ts : List Token) (t : Token) → slice_get ts (length ts - 1) ≡ Some t → Some (span_of t) ≡ last_span before ts
last-there before ts t there =
    let inside : length ts - 1 < length ts = slice_get_within ts (length ts - 1) t there in
    let whole : suc (length ts - 1) ≡ length ts = omega (arith, inside) in
    ap (λ t. Some (span_of t)) (sym (get_or_from_slice_get ts (length ts - 1) t t there))
    ∙ sym (last-taken before ts (length ts - 1) t inside)
    ∙ ap (last_span before) (ap (λ n. take n ts) whole ∙ take-length ts)
