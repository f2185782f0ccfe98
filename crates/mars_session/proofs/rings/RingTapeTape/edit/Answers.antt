use Rattle.std.proofs.Common.{◌≡◌, ◌∙◌, None, Some, ap, length, arith}
use Rattle.mars_core.specs.State.{State}
use Rattle.mars_core.specs.Edit.{edit_fault, edited}
use Rattle.mars_core.specs.Leads.{Leads}
use Rattle.mars_session.specs.History.{append, following}
use Rattle.mars_session.specs.Retention.{retained, retention_after}
use Rattle.mars_session.specs.Tapes.{RingTapeValue}
use Rattle.mars_session.specs.Code.Journals.{journal_history}
use Rattle.mars_session.proofs.Ends.{second_below, pushed_ends}
use Rattle.mars_session.proofs.Rising.{leads_turns}
use Rattle.mars_session.proofs.Stepping.{journal_following}
use Rattle.mars_session.proofs.Forgetting.{ring_pushed, pushed_ring, pushed_memory}
use Rattle.mars_session.proofs.rings.RingTapeTape.edit.Goals as goal

pub push-requires-clause-turns : goal.push-requires-clause-turns
push-requires-clause-turns c =
    let s = c.self.inside in
    let r = s.records in
    let rest : following (journal_history r.first_mark r.ring.items r.at s.battle) ≡ 0 = ap (λ (t : RingTapeValue). following t.history) c.self.view_is ∙ ap length c.requires.last in
    let at_end : length r.ring.items ≡ r.at = omega (arith, rest, journal_following r.first_mark r.ring.items r.at s.battle, c.self.invariant.0.journal.inside) in
    let leads : Leads s.battle c.in-Ok.atom c.edit.new.self = rw c.in-Ok.is at c.edit.ensures.leads in
    let before = second_below r.first_mark r.ring.items r.at s.battle r.first_turns r.last_turns c.self.invariant.0.journal at_end c.self.invariant.1 in
    omega (arith, before, (leads_turns s.battle c.edit.new.self c.in-Ok.atom leads).0, c.turns.ensures)

pub invariant_of-self : goal.invariant_of-self
invariant_of-self c =
    let s = c.self.inside in
    let r = s.records in
    let rest : following (journal_history r.first_mark r.ring.items r.at s.battle) ≡ 0 = ap (λ (t : RingTapeValue). following t.history) c.self.view_is ∙ ap length c.requires.last in
    let at_end : length r.ring.items ≡ r.at = omega (arith, rest, journal_following r.first_mark r.ring.items r.at s.battle, c.self.invariant.0.journal.inside) in
    let leads : Leads s.battle c.in-Ok.atom c.edit.new.self = rw c.in-Ok.is at c.edit.ensures.leads in
    rw (c.push.ensures.ring, c.push.ensures.at, c.push.ensures.first_mark, c.push.ensures.first_turns, c.push.ensures.last_turns, c.turns.ensures) (
      pushed_ring r.ring.items r.ring.capacity r.at s.battle c.edit.new.self c.in-Ok.atom c.self.invariant.0 at_end leads,
      pushed_ends r.first_mark r.ring.items r.ring.capacity r.at s.battle c.edit.new.self c.in-Ok.atom r.first_turns r.last_turns c.self.invariant.0 at_end leads c.self.invariant.1,
    )

pub returns-clause-places : goal.returns-clause-places
returns-clause-places c =
    let s = c.self.inside in
    let r = s.records in
    let rest : following (journal_history r.first_mark r.ring.items r.at s.battle) ≡ 0 = ap (λ (t : RingTapeValue). following t.history) c.self.view_is ∙ ap length c.requires.last in
    let at_end : length r.ring.items ≡ r.at = omega (arith, rest, journal_following r.first_mark r.ring.items r.at s.battle, c.self.invariant.0.journal.inside) in
    let leads : Leads s.battle c.in-Ok.atom c.edit.new.self = rw c.in-Ok.is at c.edit.ensures.leads in
    let may : edit_fault s.battle c.args.edit ≡ None = ap (λ (t : RingTapeValue). edit_fault t.history.present.state c.args.edit) c.self.view_is ∙ c.requires.accepted in
    let made : c.edit.new.self ≡ edited s.battle c.args.edit = rw may at c.edit.ensures.state in
    rw (c.push.ensures.ring, c.push.ensures.at, c.push.ensures.first_mark)
    (ring_pushed r.first_mark r.ring.items r.ring.capacity r.at s.battle c.edit.new.self c.in-Ok.atom c.self.invariant.0 at_end leads
    ∙ ap (λ (x : State). retained (Some r.ring.capacity) (append (journal_history r.first_mark r.ring.items r.at s.battle) x)) made
    ∙ ap (λ (t : RingTapeValue). retained (Some t.most) (append t.history (edited t.history.present.state c.args.edit))) c.self.view_is)

pub returns-clause-retention : goal.returns-clause-retention
returns-clause-retention c =
    let s = c.self.inside in
    let r = s.records in
    rw (c.push.ensures.ring, c.push.ensures.forgotten)
    (pushed_memory r.first_mark r.forgotten r.ring.items r.ring.capacity r.at s.battle (edited s.battle c.args.edit)
    ∙ ap (λ (t : RingTapeValue). retention_after (record { most = Some t.most; forgotten = t.forgotten }) (append t.history (edited t.history.present.state c.args.edit))) c.self.view_is)
