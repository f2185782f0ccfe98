use Rattle.std.proofs.Common.{◌∙◌, ap}
use Rattle.mars_session.specs.History.{back}
use Rattle.mars_session.specs.Tapes.{TapeValue}
use Rattle.mars_session.proofs.Copying.{whole_back}
use Rattle.mars_session.proofs.whole.WholeTapeTape.back.Goals as goal

pub returns-then-self-gt0-clause-places : goal.returns-then-self-gt0-clause-places
returns-then-self-gt0-clause-places c =
    let s = c.self.inside in
    whole_back s.copies.items s.at s.len c.if-self-gt0.true c.self.invariant.present ∙ ap (λ (t : TapeValue). back t.history) c.self.view_is
