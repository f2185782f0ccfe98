use Rattle.std.proofs.Common.{inl, inr}
use Rattle.std.proofs.KnownBytes.{Keeps-refl}
use Rattle.std.proofs.lemmas.Result.{IfErr-weaker, on_ok_weaker}
use Rattle.mars_app.proofs.runs.play.Goals as goal

pub returns-then-options-clause-ok : goal.returns-then-options-clause-ok
returns-then-options-clause-ok g c = on_ok_weaker c.debug_round.result (λ w. inl (c.if-options.true, w.0, w.1, w.2)) c.debug_round.ensures.ok

pub returns-then-options-clause-err : goal.returns-then-options-clause-err
returns-then-options-clause-err g c = IfErr-weaker c.debug_round.result _ _ (λ f h. inl (c.if-options.true, h)) c.debug_round.ensures.err

pub returns-clause-ok : goal.returns-clause-ok
returns-clause-ok g c = on_ok_weaker c.run_contest.result (λ w. rw (← c.streams.view_is) (inr (c.if-options.false, w.0, w.1, (Keeps-refl _, w.2)))) c.run_contest.ensures.ok

pub returns-clause-err : goal.returns-clause-err
returns-clause-err g c = IfErr-weaker c.run_contest.result _ _ (λ f h. rw (← c.streams.view_is) (inr (c.if-options.false, Keeps-refl _, h))) c.run_contest.ensures.err
