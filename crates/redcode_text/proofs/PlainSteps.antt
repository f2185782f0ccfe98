-- A line that isn't an EQU line is an ordinary line.
use Rattle.std.proofs.Common.{◌≡◌, ◌==◌, ℕ, ◌<◌, false, List, [], ◌∷◌, length, refl, arith}
use Rattle.redcode_text.specs.declared.source.row.LineKind as code
use Rattle.redcode_text.specs.declared.source.row.LineKind.TheVariants as line
use Rattle.redcode_text.specs.declared.token.Token.{Token}
use Rattle.redcode_text.specs.Lines.{Predefined, Reading, ordinary_line, tokens_line}
use Rattle.redcode_text.specs.Code.Kinds.{kind_of}
use Rattle.redcode_text.specs.Source.{SourceRow}

pub plain-ordinary : (ps : Predefined) (kind : code.LineKind) (row : SourceRow) (ts : List Token) (st : Reading) → ((at : ℕ) → kind ≡ line.Equ at → ⊥) → 0 < length ts
    → tokens_line ps (kind_of kind) row ts st ≡ ordinary_line ps row.number 32 ts st
plain-ordinary ps kind row [] st other some = absurd (omega arith)
plain-ordinary ps line.Rof row (t ∷ ts) st other some = refl
plain-ordinary ps (line.For at) row (t ∷ ts) st other some = refl
plain-ordinary ps (line.Equ at) row (t ∷ ts) st other some = absurd (other at refl)
plain-ordinary ps line.Other row (t ∷ ts) st other some = refl

-- Tokens whose number isn't 0 aren't empty.
pub some-there : (ts : List Token) (n : ℕ) → false ≡ (n == 0) → n ≡ length ts → 0 < length ts
some-there ts n some len = grind (arith, some, len)
