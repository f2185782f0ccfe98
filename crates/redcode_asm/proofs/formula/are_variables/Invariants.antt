use Rattle.std.proofs.Common.{◌≡◌, drop}
use Rattle.std.specs.List.{list_all}
use Rattle.redcode_text.specs.Expression.{kinds}
use Rattle.redcode_asm.specs.Formula.{may_occur}
use Rattle.redcode_asm.proofs.formula.are_variables.Given as goal

abbrev pub invariant-loop-token : goal.invariant-loop-token
invariant-loop-token l = list_all (may_occur l.names) (kinds (drop l.token-index l.tokens)) ≡ list_all (may_occur l.names) (kinds l.tokens)
