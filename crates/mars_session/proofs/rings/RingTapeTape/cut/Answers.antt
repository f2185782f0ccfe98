use Rattle.std.proofs.Common.{◌∙◌, ap}
use Rattle.mars_session.specs.History.{cut}
use Rattle.mars_session.specs.Tapes.{RingTapeValue}
use Rattle.mars_session.proofs.Ends.{journal_ends_cut}
use Rattle.mars_session.proofs.Stepping.{journal_cut}
use Rattle.mars_session.proofs.Forgetting.{cut_ring}
use Rattle.mars_session.proofs.rings.RingTapeTape.cut.Goals as goal

pub invariant_of-self : goal.invariant_of-self
invariant_of-self c =
    let r = c.self.inside.records in
    rw (c.truncate_back.ensures, c.turns-self-inside.ensures) (
      cut_ring r.ring.items r.ring.capacity r.at c.self.inside.battle c.self.invariant.0,
      journal_ends_cut r.first_mark r.ring.items r.at c.self.inside.battle r.first_turns r.last_turns c.self.invariant.1 c.self.invariant.0.journal.inside,
    )

pub returns-clause-places : goal.returns-clause-places
returns-clause-places c =
    let r = c.self.inside.records in
    rw c.truncate_back.ensures
    (journal_cut r.first_mark r.ring.items r.at c.self.inside.battle c.self.invariant.0.journal.inside ∙ ap (λ (t : RingTapeValue). cut t.history) c.self.view_is)
