use Rattle.std.proofs.Common.{◌<◌, ap, sym, length, arith, true}
use Rattle.std.proofs.lemmas.Bool.{ltb-true}
use Rattle.mars_session.specs.Tapes.{TapeValue}
use Rattle.mars_session.specs.History.{last_of, places}
use Rattle.mars_session.specs.Tapes.{LeadsAt}
use Rattle.mars_session.proofs.Stepping.{journal_last, journal_leads, read_entry}
use Rattle.mars_session.proofs.deltas.DeltaTape.atom.Goals as goal

pub returns-in-Some : goal.returns-in-Some
returns-in-Some c =
    let s = c.self.inside in
    let last = journal_last true s.entries.items s.at s.battle c.self.invariant.0.inside in
    let below = rw c.deref.ensures.value at (ltb-true _ (length c.deref.result.now) (sym c.in-Some.ensures.lookup.0)) in
    let inside : c.args.i < length s.entries.items = omega (arith, below) in
    let read = read_entry s.entries.items c.args.i c.in-Some.entry.now inside (rw c.deref.ensures.value at c.in-Some.ensures.lookup.1) in
    let leads : LeadsAt (places c.args.self.now.history) c.args.i c.in-Some.entry.now.0 =
    rw (sym (ap (λ (t : TapeValue). places t.history) c.self.view_is), read) (journal_leads true s.entries.items s.at s.battle c.args.i c.self.invariant.0 inside) in
    (omega (arith, last, inside, ap (λ (t : TapeValue). last_of t.history) c.self.view_is), leads)

pub returns-in-None : goal.returns-in-None
returns-in-None c =
    let s = c.self.inside in
    let last = journal_last true s.entries.items s.at s.battle c.self.invariant.0.inside in
    let outside = rw c.deref.ensures.value at c.in-None.ensures.lookup.3 in
    omega (arith, last, outside, ap (λ (t : TapeValue). last_of t.history) c.self.view_is)
