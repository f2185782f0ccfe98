use Rattle.std.proofs.Common.{◌≡◌, ◌≤◌, ◌-◌, drop, map, filter}
use Rattle.redcode_text.specs.Views.{line_of}
use Rattle.redcode_text.specs.Lines.{is_instruction}
use Rattle.redcode_asm.specs.Assembly.{none_past, placed_from}
use Rattle.redcode_asm.proofs.places.check_length.Given as goal

abbrev pub invariant-loop-line : goal.invariant-loop-line
invariant-loop-line l = record {
  few : l.index ≤ l.line-index;
  within : l.index ≤ l.longest;
  same : none_past (drop (l.longest - l.index) (filter (λ p. is_instruction l.names p.line.operation p.line.rest) (placed_from l.names l.index (map line_of (drop l.line-index l.lines)))))
      ≡ none_past (drop l.longest (filter (λ p. is_instruction l.names p.line.operation p.line.rest) (placed_from l.names 0 (map line_of l.lines))));
}
