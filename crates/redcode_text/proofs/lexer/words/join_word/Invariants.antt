use Rattle.std.proofs.Common.{length, ◌-◌, ◌≡◌, ◌≤◌, drop, IsAscii}
use Rattle.redcode_text.specs.Code.SourceLoops.{loops_of}
use Rattle.redcode_text.specs.Tokens.{join_counters, joined}
use Rattle.redcode_text.proofs.Joins.{names_of}
use Rattle.redcode_text.proofs.lexer.words.join_word.Given as goal

abbrev pub invariant-loop-at : goal.invariant-loop-at
invariant-loop-at l = record {
  within : l.at ≤ length l.word;
  same : join_counters (loops_of l.names) l.joined.items (names_of (drop l.at l.word)) ≡ joined (loops_of l.names) l.word;
  ascii : IsAscii l.joined.items;
}

abbrev pub decreases-loop-at : goal.decreases-loop-at
decreases-loop-at l = length l.word - l.at
