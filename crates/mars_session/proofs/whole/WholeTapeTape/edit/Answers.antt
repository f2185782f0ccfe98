use Rattle.std.proofs.Common.{◌<◌, ◌+◌, length, ◌∙◌, ap, arith}
use Rattle.mars_core.specs.Edit.{edited}
use Rattle.mars_session.specs.History.{append}
use Rattle.mars_core.proofs.CallerLemmas.{shape-edited, turns-edited}
use Rattle.mars_session.specs.Tapes.{TapeValue}
use Rattle.mars_session.specs.Code.Whole.{snapshot_at}
use Rattle.mars_session.proofs.Copying.{whole_append, whole_more}
use Rattle.mars_session.proofs.whole.WholeTapeTape.edit.Goals as goal

pub returns-clause-places : goal.returns-clause-places
returns-clause-places c =
    let ks = c.self.inside.copies.items in
    let at = c.self.inside.at in
    let inside : at + 1 < length ks = omega (arith, ap (λ (t : TapeValue). t.room) c.self.view_is, c.requires.room) in
    rw c.append_edit.ensures (whole_append ks at c.self.inside.len (edited (snapshot_at ks at).battle c.args.edit) inside ∙ ap (λ (t : TapeValue). append t.history (edited t.history.present.state c.args.edit)) c.self.view_is)

pub invariant_of-self : goal.invariant_of-self
invariant_of-self c =
    let ks = c.self.inside.copies.items in
    let at = c.self.inside.at in
    let inside : at + 1 < length ks = omega (arith, ap (λ (t : TapeValue). t.room) c.self.view_is, c.requires.room) in
    rw c.append_edit.ensures (whole_more ks at c.self.inside.len (edited (snapshot_at ks at).battle c.args.edit) c.self.invariant inside (shape-edited (snapshot_at ks at).battle c.args.edit)
    (omega (arith, turns-edited (snapshot_at ks at).battle c.args.edit), omega (arith, turns-edited (snapshot_at ks at).battle c.args.edit)))
