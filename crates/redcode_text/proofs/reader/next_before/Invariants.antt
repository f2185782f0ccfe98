use Rattle.std.proofs.Common.{◌≡◌, drop}
use Rattle.redcode_text.specs.Lines.{tokens_before}
use Rattle.redcode_text.proofs.reader.next_before.Given as goal

abbrev pub invariant-loop-index : goal.invariant-loop-index
invariant-loop-index l = tokens_before l.at (drop l.index l.tokens) ≡ tokens_before l.at l.tokens
