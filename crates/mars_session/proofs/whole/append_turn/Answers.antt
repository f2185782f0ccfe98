use Rattle.std.proofs.Common.{List, length, ap, arith}
use Rattle.mars_core.specs.Turn.{turn_of}
use Rattle.mars_session.specs.declared.snapshots.Snapshot.{Snapshot}
use Rattle.mars_session.specs.Code.Whole.{snapshot_at}
use Rattle.mars_session.proofs.Copying.{changed_on}
use Rattle.mars_session.proofs.whole.append_turn.Goals as goal

pub returns : goal.returns
returns c =
    let items = c.args.copies.now.items in
    let vec = c.deref_mut.ensures in
    changed_on c.args.copies.now.len items c.append_copy.new.copies c.args.at (snapshot_at items c.args.at).battle (turn_of (snapshot_at items c.args.at).battle) c.turn.new.self c.index_mut-snapshot.result.now
    (omega (arith, vec.len, ap (λ (xs : List Snapshot). length xs) vec.value, c.requires.next)) (omega (arith, c.append_copy.auto.copies, vec.len))
    (rw vec.value at c.append_copy.ensures) c.index_mut-snapshot.ensures.value
    (λ e. rw (e, c.requires.runs) at c.turn.ensures.state)
