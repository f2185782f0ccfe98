use Rattle.std.proofs.Common.{◌≡◌, ◌≤◌, drop, map, option_map, filter}
use Rattle.std.specs.List.{last_or}
use Rattle.redcode_text.specs.Views.{line_of}
use Rattle.redcode_text.specs.Lines.{is_keyword}
use Rattle.redcode_asm.specs.Assembly.{placed_from, last_where}
use Rattle.redcode_asm.specs.Code.Sources.{placed_of}
use Rattle.redcode_asm.proofs.places.last_line.Given as goal

abbrev pub invariant-loop-line : goal.invariant-loop-line
invariant-loop-line l = record {
  few : l.index ≤ l.line-index;
  same : last_or (option_map placed_of l.found) (filter (λ p. is_keyword l.names l.word p.line.operation) (placed_from l.names l.index (map line_of (drop l.line-index l.lines))))
      ≡ last_where (λ k. is_keyword l.names l.word k.operation) (placed_from l.names 0 (map line_of l.lines));
}
