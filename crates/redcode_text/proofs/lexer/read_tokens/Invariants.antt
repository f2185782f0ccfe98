use Rattle.std.proofs.Common.{length, vec_len, ◌-◌, ◌≡◌, ◌≤◌, ◌+◌, drop}
use Rattle.redcode_text.specs.Code.SourceLoops.{loops_of}
use Rattle.redcode_text.specs.Views.{scan_of}
use Rattle.redcode_text.specs.Tokens.{scan_from}
use Rattle.redcode_text.proofs.lexer.read_tokens.Given as goal

abbrev pub invariant-loop-at : goal.invariant-loop-at
invariant-loop-at l = record {
  within : l.at ≤ length l.text.bytes.now;
  same : scan_from (loops_of l.fn.names) l.text.number l.room (l.text.at + l.at) 0 (drop l.at l.text.bytes.now) (scan_of l.tokens l.names.table)
      ≡ scan_from (loops_of l.fn.names) l.text.number l.room l.text.at 0 l.text.bytes.now (scan_of l.fn.tokens l.fn.names.table);
  room : vec_len l.tokens ≤ l.room;
  loops : loops_of l.names ≡ loops_of l.fn.names;
}

abbrev pub decreases-loop-at : goal.decreases-loop-at
decreases-loop-at l = length l.text.bytes.now - l.at
