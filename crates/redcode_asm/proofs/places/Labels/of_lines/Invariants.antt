use Rattle.std.proofs.Common.{◌≡◌, ◌≤◌, [], drop, map}
use Rattle.redcode_text.specs.Views.{line_of}
use Rattle.redcode_asm.specs.Assembly.{placed_from}
use Rattle.redcode_asm.specs.Code.Labels.{table_with}
use Rattle.redcode_asm.proofs.places.Labels.of_lines.Given as goal

abbrev pub invariant-loop-line : goal.invariant-loop-line
invariant-loop-line l = record {
  few : l.index ≤ l.line-index;
  same : table_with l.labels (placed_from l.names l.index (map line_of (drop l.line-index l.lines))) ≡ table_with [] (placed_from l.names 0 (map line_of l.lines));
}
