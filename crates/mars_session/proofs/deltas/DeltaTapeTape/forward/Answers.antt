use Rattle.std.proofs.Common.{◌<◌, ◌∙◌, ap, length, arith, true}
use Rattle.mars_core.specs.Record.{applied}
use Rattle.mars_session.specs.Code.Journals.{entry_at}
use Rattle.mars_session.specs.Tapes.{TapeValue}
use Rattle.mars_session.specs.History.{forward}
use Rattle.mars_session.proofs.Ends.{journal_ends_forward}
use Rattle.mars_session.proofs.Stepping.{journal_forward, forward_kept, leads_on, gone_on, read_entry}
use Rattle.mars_session.proofs.deltas.DeltaTapeTape.forward.Goals as goal

pub apply-requires : goal.apply-requires
apply-requires c =
    let s = c.self.inside in
    let inside : s.at < length s.entries.items = omega (arith, c.if-self-len.true, c.len.ensures, s.entries.ok.0) in
    let read = read_entry s.entries.items s.at c.index.result.now inside c.index.ensures in
    (applied (entry_at s.entries.items s.at).0 s.battle, rw read (leads_on s.entries.items s.at s.battle inside c.self.invariant.0.on))

pub invariant_of-self : goal.invariant_of-self
invariant_of-self c =
    let s = c.self.inside in
    let inside : s.at < length s.entries.items = omega (arith, c.if-self-len.true, c.len.ensures, s.entries.ok.0) in
    let read = read_entry s.entries.items s.at c.index.result.now inside c.index.ensures in
    let is = gone_on s.entries.items s.at s.battle c.apply.new.self c.index.result.now.0 inside c.self.invariant.0.on read c.apply.ensures in
    rw is (
      forward_kept s.entries.items s.at s.battle inside c.self.invariant.0,
      journal_ends_forward true s.entries.items s.at s.battle s.first_turns s.last_turns c.self.invariant.1 inside c.self.invariant.0,
    )

pub returns-then-self-len-clause-places : goal.returns-then-self-len-clause-places
returns-then-self-len-clause-places c =
    let s = c.self.inside in
    let inside : s.at < length s.entries.items = omega (arith, c.if-self-len.true, c.len.ensures, s.entries.ok.0) in
    let read = read_entry s.entries.items s.at c.index.result.now inside c.index.ensures in
    let is = gone_on s.entries.items s.at s.battle c.apply.new.self c.index.result.now.0 inside c.self.invariant.0.on read c.apply.ensures in
    rw is (journal_forward true s.entries.items s.at s.battle inside c.self.invariant.0 ∙ ap (λ (t : TapeValue). forward t.history) c.self.view_is)
