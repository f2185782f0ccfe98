-- Each edit of the loop is the first of those that are left.
use Rattle.std.proofs.Common.{◌≡◌, ◌+◌, ◌∙◌, refl, arith}
use Rattle.mars_core.specs.Edit.{edited}
use Rattle.mars_core.specs.declared.battle.edit.Edit.TheVariants as edits
use Rattle.mars_session.specs.Code.Appending.{Kept, go_on}
use Rattle.mars_session.proofs.Turns.{one_filled, fault_kept}
use Rattle.mars_session.proofs.commands.fill_cells.Goals as goal

pub loop-address-preserved : goal.loop-address-preserved
loop-address-preserved g c =
    let history = g.T.Tape.history in
    let s = (history c.loop-address.tape).present.state in
    let now : Kept = record { history = history c.loop-address.tape; retention = g.T.Tape.retention c.loop-address.tape } in
    let new : Kept = record { history = history c.edit.new.self; retention = g.T.Tape.retention c.edit.new.self } in
    let made : new ≡ go_on now (edited s (edits.SetCell (c.loop-address.address + 1) c.args.cell)) = rw (c.edit.ensures.places, c.edit.ensures.retention) refl in
    record {
      filled = one_filled c.args.last c.loop-address.address c.args.cell now new _ c.loop-address-test.true c.loop-address.invariant.filled made;
      last = rw c.edit.ensures.places refl;
      room = omega (arith, c.edit.ensures.room, c.loop-address.invariant.room);
      accepted = rw c.edit.ensures.places (fault_kept s (edits.SetCell (c.loop-address.address + 1) c.args.cell) c.args.last c.args.cell ∙ c.loop-address.invariant.accepted);
    }
