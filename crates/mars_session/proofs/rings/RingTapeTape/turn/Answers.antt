use Rattle.std.proofs.Common.{◌≡◌, ◌∙◌, Some, ap, length, arith}
use Rattle.mars_core.specs.State.{State}
use Rattle.mars_core.specs.Turn.{turn_of, turn_record}
use Rattle.mars_session.specs.History.{append, following}
use Rattle.mars_session.specs.Retention.{retained, retention_after}
use Rattle.mars_session.specs.Tapes.{RingTapeValue}
use Rattle.mars_session.specs.Code.Journals.{journal_history}
use Rattle.mars_session.proofs.Ends.{second_below, pushed_ends}
use Rattle.mars_session.proofs.Stepping.{journal_following}
use Rattle.mars_session.proofs.Forgetting.{ring_pushed, pushed_ring, pushed_memory}
use Rattle.mars_session.proofs.rings.RingTapeTape.turn.Goals as goal

pub push_turn-requires-clause-turns : goal.push_turn-requires-clause-turns
push_turn-requires-clause-turns c =
    let s = c.self.inside in
    let r = s.records in
    let rest : following (journal_history r.first_mark r.ring.items r.at s.battle) ≡ 0 = ap (λ (t : RingTapeValue). following t.history) c.self.view_is ∙ ap length c.requires.last in
    let at_end : length r.ring.items ≡ r.at = omega (arith, rest, journal_following r.first_mark r.ring.items r.at s.battle, c.self.invariant.0.journal.inside) in
    second_below r.first_mark r.ring.items r.at s.battle r.first_turns r.last_turns c.self.invariant.0.journal at_end c.self.invariant.1

pub invariant_of-self : goal.invariant_of-self
invariant_of-self c =
    let s = c.self.inside in
    let r = s.records in
    let rest : following (journal_history r.first_mark r.ring.items r.at s.battle) ≡ 0 = ap (λ (t : RingTapeValue). following t.history) c.self.view_is ∙ ap length c.requires.last in
    let at_end : length r.ring.items ≡ r.at = omega (arith, rest, journal_following r.first_mark r.ring.items r.at s.battle, c.self.invariant.0.journal.inside) in
    let leads = c.push_turn.ensures.leads in
    rw (c.push_turn.ensures.ring, c.push_turn.ensures.at, c.push_turn.ensures.first_mark, c.push_turn.ensures.first_turns, c.push_turn.ensures.last_turns) (
      pushed_ring r.ring.items r.ring.capacity r.at s.battle c.push_turn.new.battle (turn_record s.battle) c.self.invariant.0 at_end leads,
      pushed_ends r.first_mark r.ring.items r.ring.capacity r.at s.battle c.push_turn.new.battle (turn_record s.battle) r.first_turns r.last_turns c.self.invariant.0 at_end leads c.self.invariant.1,
    )

pub returns-clause-places : goal.returns-clause-places
returns-clause-places c =
    let s = c.self.inside in
    let r = s.records in
    let rest : following (journal_history r.first_mark r.ring.items r.at s.battle) ≡ 0 = ap (λ (t : RingTapeValue). following t.history) c.self.view_is ∙ ap length c.requires.last in
    let at_end : length r.ring.items ≡ r.at = omega (arith, rest, journal_following r.first_mark r.ring.items r.at s.battle, c.self.invariant.0.journal.inside) in
    rw (c.push_turn.ensures.ring, c.push_turn.ensures.at, c.push_turn.ensures.first_mark)
    (ring_pushed r.first_mark r.ring.items r.ring.capacity r.at s.battle c.push_turn.new.battle (turn_record s.battle) c.self.invariant.0 at_end c.push_turn.ensures.leads
    ∙ ap (λ (x : State). retained (Some r.ring.capacity) (append (journal_history r.first_mark r.ring.items r.at s.battle) x)) c.push_turn.ensures.battle
    ∙ ap (λ (t : RingTapeValue). retained (Some t.most) (append t.history (turn_of t.history.present.state))) c.self.view_is)

pub returns-clause-retention : goal.returns-clause-retention
returns-clause-retention c =
    let s = c.self.inside in
    let r = s.records in
    rw (c.push_turn.ensures.ring, c.push_turn.ensures.forgotten)
    (pushed_memory r.first_mark r.forgotten r.ring.items r.ring.capacity r.at s.battle (turn_of s.battle)
    ∙ ap (λ (t : RingTapeValue). retention_after (record { most = Some t.most; forgotten = t.forgotten }) (append t.history (turn_of t.history.present.state))) c.self.view_is)
