use Rattle.std.proofs.lemmas.Result.{err_from_is_err_and}
use Rattle.mars_app.proofs.Asking.{options_refused}
use Rattle.mars_app.proofs.runs.run_options.Goals as goal

pub returns-in_err-setup-clause-err : goal.returns-in_err-setup-clause-err
returns-in_err-setup-clause-err g c =
    let fault = err_from_is_err_and c.from_residual.result c.from_residual.ensures.1 in
    rw (fault.1, fault.2) (λ words said. options_refused words _ _ c.args.options.now _ c.in_err-setup.ensures.err said)
