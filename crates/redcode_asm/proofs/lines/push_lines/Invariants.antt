use Rattle.std.proofs.Common.{◌≡◌, ◌≤◌, ◌++◌, drop, length, map}
use Rattle.redcode_text.specs.Views.{line_of}
use Rattle.redcode_asm.specs.Code.Lines.{labels_on, lines_on}
use Rattle.redcode_asm.proofs.lines.push_lines.Given as goal

abbrev pub invariant-loop-line : goal.invariant-loop-line
invariant-loop-line l = record {
  inside : l.begin ≤ length l.labels.items;
  lines : l.lines.items ++ lines_on l.names l.begin l.labels.items (map line_of (drop l.line-index l.source))
      ≡ l.initial.lines.items ++ lines_on l.names (length l.initial.labels.items) l.initial.labels.items (map line_of l.source);
  labels : labels_on l.names l.begin l.labels.items (map line_of (drop l.line-index l.source))
      ≡ labels_on l.names (length l.initial.labels.items) l.initial.labels.items (map line_of l.source);
}
