use Rattle.std.proofs.Common.{ap, sym, true, arith}
use Rattle.mars_session.specs.History.{position_of, following}
use Rattle.mars_session.specs.Tapes.{TapeValue}
use Rattle.mars_session.proofs.Stepping.{journal_position, journal_following}
use Rattle.mars_session.proofs.Rising.{journal_rises}
use Rattle.mars_session.proofs.deltas.DeltaTapeTape.position.Goals as goal

pub returns-clause-value : goal.returns-clause-value
returns-clause-value c =
    let at = journal_position true c.self.inside.entries.items c.self.inside.at c.self.inside.battle in
    omega (arith, at, ap (λ (t : TapeValue). position_of t.history) c.self.view_is)

pub returns-clause-covers : goal.returns-clause-covers
returns-clause-covers c =
    let s = c.self.inside in
    let rest = journal_following true s.entries.items s.at s.battle in
    omega (arith, rest, ap (λ (t : TapeValue). following t.history) c.self.view_is, ap (λ (t : TapeValue). t.room) c.self.view_is, s.entries.ok.0, s.entries.ok.1)

pub returns-clause-rises : goal.returns-clause-rises
returns-clause-rises c =
    let s = c.self.inside in
    rw (sym (ap (λ (t : TapeValue). t.history) c.self.view_is)) (journal_rises true s.entries.items s.at s.battle c.self.invariant.0)
