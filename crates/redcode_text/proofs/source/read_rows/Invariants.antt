use Rattle.std.proofs.Common.{◌≡◌, drop, map}
use Rattle.std.specs.List.{list_any}
use Rattle.redcode_text.specs.Code.Rows.{row_of}
use Rattle.redcode_text.specs.Source.{begins_redcode, from_redcode}
use Rattle.redcode_text.proofs.source.read_rows.Given as goal

abbrev pub invariant-loop-at : goal.invariant-loop-at
invariant-loop-at l = record {
  any : list_any begins_redcode (map row_of l.rows) ≡ list_any begins_redcode (map row_of (drop l.at l.rows));
  first : from_redcode (map row_of l.rows) ≡ from_redcode (map row_of (drop l.at l.rows));
}
