use Rattle.std.proofs.Common.{length, ◌-◌, ◌≡◌, ◌≤◌, ◌+◌, ◌++◌, drop, map}
use Rattle.redcode_text.specs.Code.Rows.{row_of}
use Rattle.redcode_text.specs.Source.{lines_of, rows_from, rows_of}
use Rattle.redcode_text.proofs.source.rows_of.Given as goal

abbrev pub invariant-loop-at : goal.invariant-loop-at
invariant-loop-at l = record {
  within : l.at ≤ length l.source + 1;
  few : l.number ≤ l.at + 1;
  same : map row_of l.rows.items ++ rows_from l.number l.at (lines_of (drop l.at l.source)) ≡ rows_of l.source;
}

abbrev pub decreases-loop-at : goal.decreases-loop-at
decreases-loop-at l = length l.source - l.at
