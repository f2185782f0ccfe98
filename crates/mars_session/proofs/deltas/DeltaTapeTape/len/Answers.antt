use Rattle.std.proofs.Common.{ap, arith, true}
use Rattle.mars_session.specs.Tapes.{TapeValue}
use Rattle.mars_session.specs.History.{last_of}
use Rattle.mars_session.proofs.Stepping.{journal_last}
use Rattle.mars_session.proofs.deltas.DeltaTapeTape.len.Goals as goal

pub returns : goal.returns
returns c =
    let s = c.self.inside in
    omega (arith, journal_last true s.entries.items s.at s.battle c.self.invariant.0.inside, ap (λ (t : TapeValue). last_of t.history) c.self.view_is, s.entries.ok.0, c.len.ensures)
