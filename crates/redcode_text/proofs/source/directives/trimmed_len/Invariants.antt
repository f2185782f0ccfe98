use Rattle.std.proofs.Common.{◌≡◌, ◌≤◌, length, reverse, take}
use Rattle.redcode_text.specs.Source.{without_blanks}
use Rattle.redcode_text.proofs.source.directives.trimmed_len.Given as goal

abbrev pub invariant-loop-len : goal.invariant-loop-len
invariant-loop-len l = record {
  within : l.len ≤ length l.text;
  same : reverse (without_blanks (reverse (take l.len l.text))) ≡ reverse (without_blanks (reverse l.text));
}

abbrev pub decreases-loop-len : goal.decreases-loop-len
decreases-loop-len l = l.len
