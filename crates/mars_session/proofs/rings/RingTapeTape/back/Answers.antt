use Rattle.std.proofs.Common.{◌-◌, ◌∙◌, ap}
use Rattle.mars_core.specs.Record.{reverted}
use Rattle.mars_session.specs.Code.Journals.{entry_at}
use Rattle.mars_session.specs.Tapes.{RingTapeValue}
use Rattle.mars_session.specs.History.{back}
use Rattle.mars_session.proofs.Ends.{journal_ends_back}
use Rattle.mars_session.proofs.Stepping.{journal_back, back_kept, leads_here, gone_back}
use Rattle.mars_session.proofs.rings.RingTapeTape.back.Goals as goal

pub revert-requires : goal.revert-requires
revert-requires c =
    let s = c.self.inside in
    let es = s.records.ring.items in
    let at = s.records.at in
    (reverted (entry_at es (at - 1)).0 s.battle, rw c.last.ensures (leads_here es at s.battle c.if-self-gt0.true c.self.invariant.0.journal.here))

pub invariant_of-self : goal.invariant_of-self
invariant_of-self c =
    let s = c.self.inside in
    let es = s.records.ring.items in
    let at = s.records.at in
    let i = c.self.invariant.0 in
    let is = gone_back es at s.battle c.revert.new.self c.last.result.now c.if-self-gt0.true i.journal.here c.last.ensures c.revert.ensures in (
      record { journal = rw is (back_kept es at s.battle c.if-self-gt0.true i.journal); some = i.some; few = i.few; within = i.within },
      rw is (journal_ends_back s.records.first_mark es at s.battle s.records.first_turns s.records.last_turns c.self.invariant.1 c.if-self-gt0.true i.journal),
    )

pub returns-then-self-gt0-clause-places : goal.returns-then-self-gt0-clause-places
returns-then-self-gt0-clause-places c =
    let s = c.self.inside in
    let es = s.records.ring.items in
    let at = s.records.at in
    let i = c.self.invariant.0 in
    let is = gone_back es at s.battle c.revert.new.self c.last.result.now c.if-self-gt0.true i.journal.here c.last.ensures c.revert.ensures in
    rw is (journal_back s.records.first_mark es at s.battle c.if-self-gt0.true i.journal ∙ ap (λ (t : RingTapeValue). back t.history) c.self.view_is)
