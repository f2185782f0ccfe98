use Rattle.std.proofs.Common.{◌≡◌, ◌<◌, ◌∙◌, length, ap, sym, arith}
use Rattle.std.proofs.lemmas.List.{get_or_read}
use Rattle.mars_session.specs.declared.snapshots.Snapshot.{Snapshot}
use Rattle.mars_session.specs.History.{first_turns}
use Rattle.mars_session.specs.Tapes.{TapeValue}
use Rattle.mars_session.specs.Code.Whole.{nowhere, snapshot_at}
use Rattle.mars_session.proofs.Rising.{whole_first}
use Rattle.mars_session.proofs.whole.WholeTapeTape.first_turns.Goals as goal

pub returns : goal.returns
returns c =
    let s = c.self.inside in
    let inside : 0 < length s.copies.items = omega (arith, c.self.invariant.present, c.self.invariant.copies) in
    let read : c.index.result.now ≡ snapshot_at s.copies.items 0 = get_or_read s.copies.items 0 c.index.result.now inside c.index.ensures nowhere in
    c.turns.ensures ∙ ap (λ (k : Snapshot). k.battle.turns) read ∙ sym (whole_first s.copies.items s.at s.len c.self.invariant.present) ∙ ap (λ (t : TapeValue). first_turns t.history) c.self.view_is
