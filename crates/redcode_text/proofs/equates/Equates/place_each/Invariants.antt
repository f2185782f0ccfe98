use Rattle.std.proofs.Common.{◌≡◌, drop}
use Rattle.redcode_text.specs.Equates.{each_replaced_at_line}
use Rattle.redcode_text.proofs.equates.Equates.place_each.Given as goal

abbrev pub invariant-loop-token : goal.invariant-loop-token
invariant-loop-token l = each_replaced_at_line l.self l.replaced (drop l.token-index l.tokens) ≡ each_replaced_at_line l.self l.initial.replaced l.tokens
