use Rattle.std.proofs.Common.{◌∙◌, ap, inl, inr}
use Rattle.std.proofs.lemmas.Result.{IfErr-weaker, on_ok_weaker}
use Rattle.std.proofs.KnownBytes.{Appends-trans}
use Rattle.mars_cell.proofs.CallerLemmas.{CutShort-back}
use Rattle.mars_app.specs.Contests.{fault_of}
use Rattle.mars_app.proofs.Writing.{whole_breaks}
use Rattle.mars_app.proofs.contest.run_contest.Goals as goal

pub returns-in-Err-clause-err : goal.returns-in-Err-clause-err
returns-in-Err-clause-err g c =
    let listed = rw c.core_size.ensures.value at c.in_ok-write_listing.ensures.ok in
    elim c.in-Err.ensures [
      | inl none ↦ inl (whole_breaks _ _ _ _ (c.match_fault.ensures ∙ ap fault_of none) listed)
      | inr own ↦ inr (inl (c.in-Err.fault, own, c.match_fault.ensures, listed))
    ]

pub returns-in-Ok-clause-ok : goal.returns-in-Ok-clause-ok
returns-in-Ok-clause-ok g c =
    let listed = rw c.core_size.ensures.value at c.in_ok-write_listing.ensures.ok in
    on_ok_weaker c.write_table.result (λ written. (c.in-Ok.table.rows.items, c.in-Ok.ensures, Appends-trans _ _ _ _ _ listed written)) c.write_table.ensures.ok

pub returns-in-Ok-clause-err : goal.returns-in-Ok-clause-err
returns-in-Ok-clause-err g c =
    let listed = rw c.core_size.ensures.value at c.in_ok-write_listing.ensures.ok in
    IfErr-weaker c.write_table.result _ _ (λ f h. inr (inr (c.in-Ok.table.rows.items, c.in-Ok.ensures, h.0, CutShort-back _ _ _ _ _ listed h.1))) c.write_table.ensures.err
