use Rattle.std.proofs.Common.{ap, arith}
use Rattle.mars_session.specs.History.{last_of}
use Rattle.mars_session.specs.Tapes.{RingTapeValue}
use Rattle.mars_session.proofs.Stepping.{journal_last}
use Rattle.mars_session.proofs.rings.RingTapeTape.len.Goals as goal

pub returns : goal.returns
returns c =
    let r = c.self.inside.records in
    omega (arith, journal_last r.first_mark r.ring.items r.at c.self.inside.battle c.self.invariant.0.journal.inside, ap (λ (t : RingTapeValue). last_of t.history) c.self.view_is, c.len.ensures.len)
