-- A battle that cannot start.
use Rattle.std.proofs.Common.{◌≡◌, refl, ap, Option, Some, None, IfSome, Result, Err, IfErr, ◌⊎◌, inl, inr}
use Rattle.mars_core.specs.State.{State}
use Rattle.mars_core.specs.declared.battle.start.BattleFault.{BattleFault}
use Rattle.mars_core.specs.declared.battle.start.BattleFault.TheVariants.{OutOfMemory}
use Rattle.mars_match.specs.Battles.{unless}
use Rattle.mars_match.specs.declared.fault.MatchFault.TheVariants.{Battle}

-- The error is `OutOfMemory`, or the error of the definition.
pub start_refused : {X : Type 0} (o : Option BattleFault) (s : State) (result : Result X BattleFault) (fault : BattleFault) →
    IfSome o (λ f. result ≡ Err f) → (o ≡ None → IfErr result (λ f. f ≡ OutOfMemory)) → result ≡ Err fault →
    (fault ≡ OutOfMemory) ⊎ (unless o s ≡ Err (Battle fault))
start_refused None s result fault some none e = inl (rw e at (none refl))
start_refused (Some f) s result fault some none e =
    let same : f ≡ fault = cc in
    inr (ap (λ x. Err (Battle x)) same)
