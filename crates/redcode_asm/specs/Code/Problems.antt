-- The relations of `Outcomes` for an error without a line, and what is reported for an error.
use Rattle.std.specs.Prelude.{◌≡◌, ⊤, ℕ, Option, None, Result, Ok, Err}
use Rattle.redcode_text.specs.declared.fault.TextProblem.{TextProblem}
use Rattle.redcode_text.specs.declared.fault.TextProblem.TheVariants as text
use Rattle.redcode_text.specs.declared.token.Span.{Span}
use Rattle.redcode_asm.specs.declared.fault.AsmProblem.{AsmProblem}
use Rattle.redcode_asm.specs.declared.fault.AsmTokenProblem.{AsmTokenProblem}
use Rattle.redcode_asm.specs.declared.fault.AsmProblem.TheVariants.{Text, OutOfMemory}

-- The error `e`, which has the given problem, is the error of `defined`, or memory ran out.
abbrev pub Fails : {X : Type 0} → AsmProblem → AsmTokenProblem → Result X AsmTokenProblem → Type 0
Fails OutOfMemory e defined = ⊤
Fails problem e defined = defined ≡ Err e

-- The given result, mapped by `f`, is `defined`, or memory ran out.
abbrev pub Gives : {X Y : Type 0} → (Y → X) → Result Y AsmTokenProblem → Result X AsmTokenProblem → Type 0
Gives f (Ok y) defined = defined ≡ Ok (f y)
Gives f (Err e) defined = Fails e.problem e defined

-- The line number that is reported for an error on line `n`: 0 if memory ran out.
abbrev pub fault_line : ℕ → AsmProblem → ℕ
fault_line n OutOfMemory = 0
fault_line n problem = n

-- The token that is reported for an error at the token `span`: none if memory ran out.
abbrev pub fault_token : Option Span → AsmProblem → Option Span
fault_token span OutOfMemory = None
fault_token span problem = span

-- The assembler's error for an error of the text. `OutOfMemory` stays `OutOfMemory`.
abbrev pub problem_of_text : TextProblem → AsmProblem
problem_of_text text.OutOfMemory = OutOfMemory
problem_of_text problem = Text problem
