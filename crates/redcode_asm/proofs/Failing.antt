-- If the first of two steps fails, both together fail with the same error.
use Rattle.std.proofs.Common.{◌≡◌, Result, Ok, Err, ap}
use Rattle.redcode_text.specs.Results.{◌>>=◌}
use Rattle.redcode_asm.specs.declared.fault.AsmProblem.{AsmProblem}
use Rattle.redcode_asm.specs.declared.fault.AsmTokenProblem.{AsmTokenProblem}
use Rattle.redcode_asm.specs.declared.fault.AsmProblem.TheVariants.{Text, Operation, Operand, Expression, AssertFailed, BadOrigin, Empty, TooLong, OutOfMemory}
use Rattle.redcode_asm.specs.Code.Problems.{Fails, Gives}

-- If the code fails with the defined error, `Fails` holds.
pub fails-same : {A : Type 0} (p : AsmProblem) (e : AsmTokenProblem) (defined : Result A AsmTokenProblem) → defined ≡ Err e → Fails p e defined
fails-same (Text x) e defined h = h
fails-same Operation e defined h = h
fails-same Operand e defined h = h
fails-same (Expression x) e defined h = h
fails-same AssertFailed e defined h = h
fails-same BadOrigin e defined h = h
fails-same Empty e defined h = h
fails-same TooLong e defined h = h
fails-same OutOfMemory e defined h = tt

-- If the code returns the defined result, `Gives` holds.
pub gives-same : {A : Type 0} (r : Result A AsmTokenProblem) (defined : Result A AsmTokenProblem) → defined ≡ r → Gives (λ x. x) r defined
gives-same (Ok x) defined h = h
gives-same (Err e) defined h = fails-same e.problem e defined h

pub bind-ok : {A B E : Type 0} (r : Result A E) (x : A) (f : A → Result B E) → r ≡ Ok x → (r >>= f) ≡ f x
bind-ok r x f h = ap (λ r. r >>= f) h
