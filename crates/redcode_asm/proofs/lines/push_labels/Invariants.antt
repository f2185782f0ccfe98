use Rattle.std.proofs.Common.{◌≡◌, ◌++◌, take}
use Rattle.redcode_asm.specs.SourceLines.{labels_text}
use Rattle.redcode_asm.proofs.lines.push_labels.Given as goal

abbrev pub invariant-loop-label : goal.invariant-loop-label
invariant-loop-label l = l.text.items ≡ l.initial.text.items ++ labels_text l.names (take l.label-index l.labels)
