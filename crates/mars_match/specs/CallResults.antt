-- How the result of a call that allocates is related to its definition.
use Rattle.std.specs.Prelude.{◌≡◌, ◌⊎◌, Result, Ok, Err, MatchResult}
use Rattle.mars_match.specs.declared.fault.MatchFault.{MatchFault}
use Rattle.mars_match.specs.declared.fault.MatchFault.TheVariants.{OutOfMemory}

-- `result` is the value or error in `defined`, or memory ran out. `view` maps a returned value to the value that it stands for.
abbrev pub IsResult : {A B : Type 0} → (A → B) → Result B MatchFault → Result A MatchFault → Type 0
IsResult view defined result = MatchResult result (λ value. defined ≡ Ok (view value)) (λ fault. (fault ≡ OutOfMemory) ⊎ (defined ≡ Err fault))
