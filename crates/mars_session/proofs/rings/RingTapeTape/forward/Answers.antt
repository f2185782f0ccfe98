use Rattle.std.proofs.Common.{◌<◌, ◌∙◌, ap, length, arith}
use Rattle.mars_core.specs.Record.{applied}
use Rattle.mars_session.specs.Code.Journals.{entry_at}
use Rattle.mars_session.specs.Tapes.{RingTapeValue}
use Rattle.mars_session.specs.History.{forward}
use Rattle.mars_session.proofs.Ends.{journal_ends_forward}
use Rattle.mars_session.proofs.Stepping.{journal_forward, forward_kept, leads_on, gone_on}
use Rattle.mars_session.proofs.rings.RingTapeTape.forward.Goals as goal

pub apply-requires : goal.apply-requires
apply-requires c =
    let s = c.self.inside in
    let es = s.records.ring.items in
    let at = s.records.at in
    let inside : at < length es = omega (arith, c.if-self-len.true, c.len.ensures.len) in
    (applied (entry_at es at).0 s.battle, rw c.next.ensures (leads_on es at s.battle inside c.self.invariant.0.journal.on))

pub invariant_of-self : goal.invariant_of-self
invariant_of-self c =
    let s = c.self.inside in
    let es = s.records.ring.items in
    let at = s.records.at in
    let i = c.self.invariant.0 in
    let inside : at < length es = omega (arith, c.if-self-len.true, c.len.ensures.len) in
    let is = gone_on es at s.battle c.apply.new.self c.next.result.now inside i.journal.on c.next.ensures c.apply.ensures in (
      record { journal = rw is (forward_kept es at s.battle inside i.journal); some = i.some; few = i.few; within = i.within },
      rw is (journal_ends_forward s.records.first_mark es at s.battle s.records.first_turns s.records.last_turns c.self.invariant.1 inside i.journal),
    )

pub returns-then-self-len-clause-places : goal.returns-then-self-len-clause-places
returns-then-self-len-clause-places c =
    let s = c.self.inside in
    let es = s.records.ring.items in
    let at = s.records.at in
    let i = c.self.invariant.0 in
    let inside : at < length es = omega (arith, c.if-self-len.true, c.len.ensures.len) in
    let is = gone_on es at s.battle c.apply.new.self c.next.result.now inside i.journal.on c.next.ensures c.apply.ensures in
    rw is (journal_forward s.records.first_mark es at s.battle inside i.journal ∙ ap (λ (t : RingTapeValue). forward t.history) c.self.view_is)
