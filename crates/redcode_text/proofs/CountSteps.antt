-- A count without labels is computed from the values of the names in its tokens.
use Rattle.std.proofs.Common.{◌≡◌, ◌∙◌, ℕ, List, None, Option, Some, Result, Err, ap, sym}
use Rattle.std.specs.Prelude.{ℤ}
use Rattle.redcode_text.specs.declared.fault.TextProblem.TheVariants.{LabelInCount}
use Rattle.redcode_text.specs.declared.fault.TextTokenProblem.{TextTokenProblem}
use Rattle.redcode_text.specs.declared.token.Span.{Span}
use Rattle.redcode_text.specs.declared.token.Token.{Token}
use Rattle.redcode_text.specs.Expansion.{as_count, count_names, count_span, counted, label_span, replaced_count}
use Rattle.redcode_text.specs.Expression.{kinds, value_of}
use Rattle.redcode_text.specs.Lines.{Predefined, Reading}
use Rattle.redcode_text.specs.Tokens.{problem_at}

-- The number of iterations for the count `us`, if the names have the values `names`.
abbrev pub valued : Option Span → List Token → (ℕ → Option ℤ) → Result ℕ TextTokenProblem
valued before us names = counted (count_span names before us) (as_count (value_of names (kinds us)))

pub count-is : (ps : Predefined) (st : Reading) (before : Option Span) (us : List Token) (r : Result ℕ TextTokenProblem) → label_span ps st us ≡ None → r ≡ valued before us (count_names ps st) → r ≡ replaced_count ps st before us
count-is ps st before us r none is =
    is
    ∙ sym (ap (λ (o : Option Span). elim o as (λ _. Result ℕ TextTokenProblem) [ Some span ↦ Err (problem_at (Some span) LabelInCount) | None ↦ valued before us (count_names ps st) ]) none)
