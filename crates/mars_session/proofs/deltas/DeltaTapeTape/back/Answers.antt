use Rattle.std.proofs.Common.{◌<◌, ◌-◌, ◌∙◌, ap, length, arith, true}
use Rattle.mars_core.specs.Record.{reverted}
use Rattle.mars_session.specs.Code.Journals.{entry_at}
use Rattle.mars_session.specs.Tapes.{TapeValue}
use Rattle.mars_session.specs.History.{back}
use Rattle.mars_session.proofs.Ends.{journal_ends_back}
use Rattle.mars_session.proofs.Stepping.{journal_back, back_kept, leads_here, gone_back, read_entry}
use Rattle.mars_session.proofs.deltas.DeltaTapeTape.back.Goals as goal

pub revert-requires : goal.revert-requires
revert-requires c =
    let s = c.self.inside in
    let inside : s.at - 1 < length s.entries.items = omega (arith, c.self.invariant.0.inside, c.if-self-gt0.true) in
    let read = read_entry s.entries.items (s.at - 1) c.index.result.now inside c.index.ensures in
    (reverted (entry_at s.entries.items (s.at - 1)).0 s.battle, rw read (leads_here s.entries.items s.at s.battle c.if-self-gt0.true c.self.invariant.0.here))

pub invariant_of-self : goal.invariant_of-self
invariant_of-self c =
    let s = c.self.inside in
    let inside : s.at - 1 < length s.entries.items = omega (arith, c.self.invariant.0.inside, c.if-self-gt0.true) in
    let read = read_entry s.entries.items (s.at - 1) c.index.result.now inside c.index.ensures in
    let is = gone_back s.entries.items s.at s.battle c.revert.new.self c.index.result.now.0 c.if-self-gt0.true c.self.invariant.0.here read c.revert.ensures in
    rw is (
      back_kept s.entries.items s.at s.battle c.if-self-gt0.true c.self.invariant.0,
      journal_ends_back true s.entries.items s.at s.battle s.first_turns s.last_turns c.self.invariant.1 c.if-self-gt0.true c.self.invariant.0,
    )

pub returns-then-self-gt0-clause-places : goal.returns-then-self-gt0-clause-places
returns-then-self-gt0-clause-places c =
    let s = c.self.inside in
    let inside : s.at - 1 < length s.entries.items = omega (arith, c.self.invariant.0.inside, c.if-self-gt0.true) in
    let read = read_entry s.entries.items (s.at - 1) c.index.result.now inside c.index.ensures in
    let is = gone_back s.entries.items s.at s.battle c.revert.new.self c.index.result.now.0 c.if-self-gt0.true c.self.invariant.0.here read c.revert.ensures in
    rw is (journal_back true s.entries.items s.at s.battle c.if-self-gt0.true c.self.invariant.0 ∙ ap (λ (t : TapeValue). back t.history) c.self.view_is)
