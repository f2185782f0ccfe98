use Rattle.std.proofs.Common.{◌<◌, ◌-◌, ◌∙◌, ap, length, arith, true}
use Rattle.mars_session.specs.Tapes.{TapeValue}
use Rattle.mars_session.specs.History.{marked}
use Rattle.mars_session.proofs.Ends.{journal_ends_marked}
use Rattle.mars_session.proofs.Stepping.{journal_marked, marked_kept, read_entry}
use Rattle.mars_session.proofs.deltas.DeltaTapeTape.set_mark.Goals as goal

pub invariant_of-self : goal.invariant_of-self
invariant_of-self c =
    let s = c.self.inside in
    let inside : s.at - 1 < length s.entries.items = omega (arith, c.self.invariant.0.inside, c.if-self-gt0.true) in
    let read = read_entry s.entries.items (s.at - 1) c.index_mut-entry.result.now inside c.index_mut-entry.ensures.value in
    rw read (
      marked_kept s.entries.items s.at s.battle c.if-self-gt0.true c.self.invariant.0,
      journal_ends_marked true s.entries.items s.at s.battle s.first_turns s.last_turns c.self.invariant.1 c.if-self-gt0.true c.self.invariant.0.inside,
    )

pub returns-then-self-gt0-clause-places : goal.returns-then-self-gt0-clause-places
returns-then-self-gt0-clause-places c =
    let s = c.self.inside in
    let inside : s.at - 1 < length s.entries.items = omega (arith, c.self.invariant.0.inside, c.if-self-gt0.true) in
    let read = read_entry s.entries.items (s.at - 1) c.index_mut-entry.result.now inside c.index_mut-entry.ensures.value in
    rw read (journal_marked true s.entries.items s.at s.battle c.if-self-gt0.true c.self.invariant.0.inside ∙ ap (λ (t : TapeValue). marked t.history) c.self.view_is)
