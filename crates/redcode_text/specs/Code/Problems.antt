-- The relations of `Outcomes` for an error without a line, and the line and the token that are reported for an error.
use Rattle.std.specs.Prelude.{◌≡◌, ⊤, ℕ, Option, None, Result, Ok, Err}
use Rattle.redcode_text.specs.declared.fault.TextProblem.{TextProblem}
use Rattle.redcode_text.specs.declared.fault.TextProblem.TheVariants.{OutOfMemory}
use Rattle.redcode_text.specs.declared.fault.TextTokenProblem.{TextTokenProblem}
use Rattle.redcode_text.specs.declared.token.Span.{Span}

-- The error `e`, which has the given problem, is the error of `defined`, or memory ran out.
abbrev pub FailsBy : {X E : Type 0} → TextProblem → E → Result X E → Type 0
FailsBy OutOfMemory e defined = ⊤
FailsBy problem e defined = defined ≡ Err e

-- The error `e` is the error of `defined`, or memory ran out.
abbrev pub Fails : {X : Type 0} → TextTokenProblem → Result X TextTokenProblem → Type 0
Fails e defined = FailsBy e.problem e defined

-- The given result, mapped by `f`, is `defined`, or memory ran out.
abbrev pub Gives : {X Y : Type 0} → (Y → X) → Result Y TextTokenProblem → Result X TextTokenProblem → Type 0
Gives f (Ok y) defined = defined ≡ Ok (f y)
Gives f (Err e) defined = FailsBy e.problem e defined

-- As `Fails`, for an error without a token.
abbrev pub FailsBare : {X : Type 0} → TextProblem → Result X TextProblem → Type 0
FailsBare problem defined = FailsBy problem problem defined

-- As `Gives`, for an error without a token.
abbrev pub GivesBare : {X Y : Type 0} → (Y → X) → Result Y TextProblem → Result X TextProblem → Type 0
GivesBare f (Ok y) defined = defined ≡ Ok (f y)
GivesBare f (Err problem) defined = FailsBy problem problem defined

-- The line number that is reported for an error on line `n`: 0 if memory ran out.
abbrev pub fault_line : ℕ → TextProblem → ℕ
fault_line n OutOfMemory = 0
fault_line n problem = n

-- The token that is reported for an error at the token `span`: none if memory ran out.
abbrev pub fault_token : Option Span → TextProblem → Option Span
fault_token span OutOfMemory = None
fault_token span problem = span
