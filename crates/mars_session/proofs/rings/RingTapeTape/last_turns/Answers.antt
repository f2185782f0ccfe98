use Rattle.std.proofs.Common.{◌∙◌, ap, sym}
use Rattle.mars_session.specs.History.{last_turns}
use Rattle.mars_session.specs.Tapes.{RingTapeValue}
use Rattle.mars_session.proofs.Rising.{journal_rises}
use Rattle.mars_session.proofs.rings.RingTapeTape.last_turns.Goals as goal

pub returns-clause-value : goal.returns-clause-value
returns-clause-value c = c.self.invariant.1.last ∙ ap (λ (t : RingTapeValue). last_turns t.history) c.self.view_is

pub returns-clause-rises : goal.returns-clause-rises
returns-clause-rises c =
    let r = c.self.inside.records in
    rw (sym (ap (λ (t : RingTapeValue). t.history) c.self.view_is)) (journal_rises r.first_mark r.ring.items r.at c.self.inside.battle c.self.invariant.0.journal)
