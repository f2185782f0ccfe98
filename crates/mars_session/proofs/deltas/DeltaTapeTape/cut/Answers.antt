use Rattle.std.proofs.Common.{◌∙◌, ap, true}
use Rattle.mars_session.specs.Tapes.{TapeValue}
use Rattle.mars_session.specs.History.{cut}
use Rattle.mars_session.proofs.Ends.{journal_ends_cut}
use Rattle.mars_session.proofs.Stepping.{journal_cut, cut_kept}
use Rattle.mars_session.proofs.deltas.DeltaTapeTape.cut.Goals as goal

pub invariant_of-self : goal.invariant_of-self
invariant_of-self c =
    let s = c.self.inside in
    rw (c.truncate.ensures.items, c.turns-self-inside.ensures) (
      cut_kept s.entries.items s.at s.battle c.self.invariant.0,
      journal_ends_cut true s.entries.items s.at s.battle s.first_turns s.last_turns c.self.invariant.1 c.self.invariant.0.inside,
    )

pub returns-clause-places : goal.returns-clause-places
returns-clause-places c =
    rw c.truncate.ensures.items (journal_cut true c.self.inside.entries.items c.self.inside.at c.self.inside.battle c.self.invariant.0.inside) ∙ ap (λ (t : TapeValue). cut t.history) c.self.view_is
