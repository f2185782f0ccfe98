use Rattle.std.proofs.Common.{◌≡◌, drop}
use Rattle.redcode_asm.specs.Code.Labels.{with_labels}
use Rattle.redcode_asm.proofs.places.Labels.add_each.Given as goal

abbrev pub invariant-loop-label : goal.invariant-loop-label
invariant-loop-label l = with_labels l.index l.self (drop l.label-index l.labels) ≡ with_labels l.index l.initial.self l.labels
