use Rattle.std.proofs.Common.{◌≡◌, take, drop}
use Rattle.redcode_asm.specs.Assembly.{parts_at_commas}
use Rattle.redcode_asm.proofs.Commas.{prepend}
use Rattle.redcode_asm.proofs.operands.split_comma.Given as goal

abbrev pub invariant-loop-at : goal.invariant-loop-at
invariant-loop-at l = parts_at_commas l.tokens ≡ prepend (take l.at l.tokens) (parts_at_commas (drop l.at l.tokens))
