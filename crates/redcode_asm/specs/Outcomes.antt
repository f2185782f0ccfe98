-- How the result of a call that allocates is related to its definition: it is the defined result, or memory ran out.
use Rattle.std.specs.Prelude.{◌≡◌, None, Result, Ok, Err}
use Rattle.redcode_asm.specs.declared.fault.AsmFault.{AsmFault}
use Rattle.redcode_asm.specs.declared.fault.AsmProblem.{AsmProblem}
use Rattle.redcode_asm.specs.declared.fault.AsmProblem.TheVariants.{OutOfMemory}

-- If the problem is `OutOfMemory`, `fault` has the line 0 and no token. Otherwise `fault` is the error of `defined`.
abbrev pub FailsAt : {X : Type 0} → AsmProblem → AsmFault → Result X AsmFault → Type 0
FailsAt OutOfMemory fault defined = (fault.line ≡ 0) × (fault.token ≡ None)
FailsAt problem fault defined = defined ≡ Err fault

-- The given result, mapped by `f`, is `defined`, or memory ran out.
abbrev pub IsResult : {X Y : Type 0} → (Y → X) → Result Y AsmFault → Result X AsmFault → Type 0
IsResult f (Ok y) defined = defined ≡ Ok (f y)
IsResult f (Err fault) defined = FailsAt fault.problem fault defined
