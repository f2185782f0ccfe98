use Rattle.std.proofs.lemmas.Result.{IfErr-weaker, on_ok_weaker}
use Rattle.mars_app.specs.Runs.RunSucceeds.{helped}
use Rattle.mars_app.specs.Faults.RunFails.{unhelped}
use Rattle.mars_app.proofs.WordsRead.{asks_for_help}
use Rattle.mars_app.proofs.runs.run_args.Goals as goal

pub returns-in-Ok-clause-ok : goal.returns-in-Ok-clause-ok
returns-in-Ok-clause-ok g c = on_ok_weaker c.run_options.result (λ w. w _ c.in-Ok.ensures.value) c.run_options.ensures.ok

pub returns-in-Ok-clause-err : goal.returns-in-Ok-clause-err
returns-in-Ok-clause-err g c = IfErr-weaker c.run_options.result _ _ (λ f h. h _ c.in-Ok.ensures.value) c.run_options.ensures.err

pub returns-in-Err-Help-clause-ok : goal.returns-in-Err-Help-clause-ok
returns-in-Err-Help-clause-ok g c =
    on_ok_weaker c.write.result (λ w. helped (asks_for_help _ _ _ c.in-Err-Help.ensures.value c.in-Err-Help.field-0-is) _ w) c.write.ensures.ok

pub returns-in-Err-Help-clause-err : goal.returns-in-Err-Help-clause-err
returns-in-Err-Help-clause-err g c =
    IfErr-weaker c.write.result _ _ (λ f h. unhelped h.0 (asks_for_help _ _ _ c.in-Err-Help.ensures.value c.in-Err-Help.field-0-is) _ h.1) c.write.ensures.err
