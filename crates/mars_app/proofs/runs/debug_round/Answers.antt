use Rattle.std.proofs.Common.{◌∙◌, ap, inl, inr}
use Rattle.std.proofs.KnownBytes.{Keeps-refl}
use Rattle.mars_core.specs.Start.{start_fault, start_state}
use Rattle.mars_match.specs.declared.fault.MatchFault.TheVariants.{Battle}
use Rattle.mars_app.specs.Contests.{fault_of}
use Rattle.mars_app.proofs.Starts.{start_refused}
use Rattle.mars_app.proofs.runs.debug_round.Goals as goal

pub returns-clause-err : goal.returns-clause-err
returns-clause-err g c =
    let p = c.args.setup.now.params in
    let ws = c.args.warriors.now in
    let starts = c.in-Ok.placed.0.items in
    let new = rw c.deref.ensures.value at c.new.ensures in
    elim (start_refused (start_fault p ws starts) (start_state p ws starts) c.new.result c.in-Err-new.fault new.fault new.only_memory c.in-Err-new.is) [
      | inl memory ↦ inl (inl (c.match_fault-in-Err-new.ensures ∙ ap (λ f. fault_of (Battle f)) memory), (Keeps-refl _, Keeps-refl _))
      | inr own ↦ inl (inr (Battle c.in-Err-new.fault, rw c.in-Ok.ensures.value own, c.match_fault-in-Err-new.ensures), (Keeps-refl _, Keeps-refl _))
    ]
