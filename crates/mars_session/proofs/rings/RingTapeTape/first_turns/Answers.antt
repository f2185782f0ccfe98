use Rattle.std.proofs.Common.{◌∙◌, ap}
use Rattle.mars_session.specs.History.{first_turns}
use Rattle.mars_session.specs.Tapes.{RingTapeValue}
use Rattle.mars_session.proofs.rings.RingTapeTape.first_turns.Goals as goal

pub returns : goal.returns
returns c = c.self.invariant.1.first ∙ ap (λ (t : RingTapeValue). first_turns t.history) c.self.view_is
