use Rattle.std.proofs.Common.{◌≡◌, ◌-◌, ◌<◌, ◌∙◌, length, ap, sym, arith}
use Rattle.std.proofs.lemmas.List.{get_or_read}
use Rattle.mars_session.specs.declared.snapshots.Snapshot.{Snapshot}
use Rattle.mars_session.specs.History.{last_turns}
use Rattle.mars_session.specs.Tapes.{TapeValue}
use Rattle.mars_session.specs.Code.Whole.{nowhere, snapshot_at}
use Rattle.mars_session.proofs.Rising.{whole_last, whole_rises}
use Rattle.mars_session.proofs.whole.WholeTapeTape.last_turns.Goals as goal

pub returns-clause-value : goal.returns-clause-value
returns-clause-value c =
    let s = c.self.inside in
    let inside : s.len - 1 < length s.copies.items = omega (arith, c.self.invariant.present, c.self.invariant.copies) in
    let read : c.index.result.now ≡ snapshot_at s.copies.items (s.len - 1) = get_or_read s.copies.items (s.len - 1) c.index.result.now inside c.index.ensures nowhere in
    c.turns.ensures ∙ ap (λ (k : Snapshot). k.battle.turns) read ∙ sym (whole_last s.copies.items s.at s.len c.self.invariant.present) ∙ ap (λ (t : TapeValue). last_turns t.history) c.self.view_is

pub returns-clause-rises : goal.returns-clause-rises
returns-clause-rises c =
    let s = c.self.inside in
    rw (sym (ap (λ (t : TapeValue). t.history) c.self.view_is)) (whole_rises s.copies.items s.at s.len c.self.invariant)
