use Rattle.std.proofs.Common.{◌≡◌, drop}
use Rattle.redcode_asm.specs.Assembly.{commas}
use Rattle.redcode_asm.proofs.operands.next_comma.Given as goal

abbrev pub invariant-loop-at : goal.invariant-loop-at
invariant-loop-at l = commas (drop l.at l.tokens) ≡ commas l.tokens
