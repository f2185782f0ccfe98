use Rattle.std.proofs.Common.{◌≤◌, ◌-◌, ◌++◌, length, take}
use Rattle.indexmap.specs.IndexSet.{spare}
use Rattle.redcode_text.specs.Code.Labels.{HasSame}
use Rattle.redcode_text.proofs.names.set.insert_each.Given as goal

abbrev pub invariant-loop-name : goal.invariant-loop-name
invariant-loop-name l = record {
  room : length l.names - l.name-index ≤ spare l.set;
  same : HasSame l.set.keys (l.initial.set.keys ++ take l.name-index l.names);
}
