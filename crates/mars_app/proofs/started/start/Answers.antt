use Rattle.mars_app.proofs.started.start.Goals as goal

pub returns-in-Ok-clause-done : goal.returns-in-Ok-clause-done
returns-in-Ok-clause-done g c = λ zero. (_, c.run.ensures.done zero)
