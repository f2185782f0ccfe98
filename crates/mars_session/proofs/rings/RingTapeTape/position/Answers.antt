use Rattle.std.proofs.Common.{ap, sym, arith}
use Rattle.mars_session.specs.History.{position_of, following}
use Rattle.mars_session.specs.Tapes.{RingTapeValue}
use Rattle.mars_session.proofs.Stepping.{journal_position, journal_following}
use Rattle.mars_session.proofs.Rising.{journal_rises}
use Rattle.mars_session.proofs.rings.RingTapeTape.position.Goals as goal

pub returns-clause-value : goal.returns-clause-value
returns-clause-value c =
    let r = c.self.inside.records in
    omega (arith, journal_position r.first_mark r.ring.items r.at c.self.inside.battle, ap (λ (t : RingTapeValue). position_of t.history) c.self.view_is)

pub returns-clause-covers : goal.returns-clause-covers
returns-clause-covers c =
    let r = c.self.inside.records in
    let i = c.self.invariant.0 in
    omega (arith, i.within, i.few, journal_following r.first_mark r.ring.items r.at c.self.inside.battle, ap (λ (t : RingTapeValue). following t.history) c.self.view_is)

pub returns-clause-rises : goal.returns-clause-rises
returns-clause-rises c =
    let r = c.self.inside.records in
    rw (sym (ap (λ (t : RingTapeValue). t.history) c.self.view_is)) (journal_rises r.first_mark r.ring.items r.at c.self.inside.battle c.self.invariant.0.journal)
