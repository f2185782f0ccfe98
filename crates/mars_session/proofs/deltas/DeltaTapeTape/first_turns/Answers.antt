use Rattle.std.proofs.Common.{◌∙◌, ap}
use Rattle.mars_session.specs.History.{first_turns}
use Rattle.mars_session.specs.Tapes.{TapeValue}
use Rattle.mars_session.proofs.deltas.DeltaTapeTape.first_turns.Goals as goal

pub returns : goal.returns
returns c = c.self.invariant.1.first ∙ ap (λ (t : TapeValue). first_turns t.history) c.self.view_is
