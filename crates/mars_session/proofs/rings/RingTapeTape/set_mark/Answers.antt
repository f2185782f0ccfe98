use Rattle.std.proofs.Common.{◌∙◌, ap}
use Rattle.mars_session.specs.History.{marked}
use Rattle.mars_session.specs.Tapes.{RingTapeValue}
use Rattle.mars_session.proofs.Ends.{ends_marked}
use Rattle.mars_session.specs.Code.Journals.{journal_history}
use Rattle.mars_session.proofs.Forgetting.{ring_marked, marked_ring}
use Rattle.mars_session.proofs.rings.RingTapeTape.set_mark.Goals as goal

pub invariant_of-self : goal.invariant_of-self
invariant_of-self c =
    let s = c.self.inside in
    let r = s.records in
    let marks = ring_marked r.first_mark r.ring r.at s.battle c.self.invariant.0 in
    rw (c.set_mark.ensures.ring, c.set_mark.ensures.at, c.set_mark.ensures.first_mark, c.set_mark.ensures.first_turns, c.set_mark.ensures.last_turns) (
      marked_ring r.ring r.at s.battle c.self.invariant.0,
      rw marks (ends_marked (journal_history r.first_mark r.ring.items r.at s.battle) r.first_turns r.last_turns c.self.invariant.1),
    )

pub returns-clause-places : goal.returns-clause-places
returns-clause-places c =
    let s = c.self.inside in
    rw (c.set_mark.ensures.ring, c.set_mark.ensures.at, c.set_mark.ensures.first_mark)
    (ring_marked s.records.first_mark s.records.ring s.records.at s.battle c.self.invariant.0 ∙ ap (λ (t : RingTapeValue). marked t.history) c.self.view_is)
