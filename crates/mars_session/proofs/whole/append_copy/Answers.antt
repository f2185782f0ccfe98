use Rattle.std.proofs.Common.{◌≡◌, ◌+◌, ◌<◌, length, false, List, set, ◌∙◌, ap, sym, arith}
use Rattle.mars_session.specs.declared.snapshots.Snapshot.{Snapshot}
use Rattle.mars_session.specs.Code.Whole.{snapshot_at}
use Rattle.mars_session.proofs.Copying.{next_written, read_of_front}
use Rattle.mars_session.proofs.whole.append_copy.Goals as goal

pub returns : goal.returns
returns c =
    let split = c.split_at_mut-front.ensures in
    let inside : c.args.at < length c.split_at_mut-front.result.0.now = omega (arith, split.front_len) in
    let read = read_of_front c.split_at_mut-front.result.0.now c.split_at_mut-front.result.1.now c.index-front-at.result c.args.at inside c.index-front-at.is in
    let copied : c.copy_into.new.target ≡ (snapshot_at c.args.copies.now c.args.at).battle =
    rw split.value (c.copy_into.ensures ∙ ap (λ (k : Snapshot). k.battle) (sym c.index-front-at.is ∙ read)) in
    let kept : Snapshot = record { battle = (snapshot_at c.args.copies.now c.args.at).battle; mark = false } in
    rw copied
    (next_written c.split_at_mut-front.result.0.now c.split_at_mut-front.result.1.now kept (c.args.at + 1) split.front_len
    ∙ ap (λ (ks : List Snapshot). set ks (c.args.at + 1) kept) (sym split.value))
