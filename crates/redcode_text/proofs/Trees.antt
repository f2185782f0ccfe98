-- The precedence of an operator, and of the root of a tree, is at most 5.
use Rattle.std.proofs.Common.{◌≤◌, arith}
use Rattle.redcode_text.specs.declared.token.Sign.{Sign}
use Rattle.redcode_text.specs.declared.token.Sign.TheVariants.{Star}
use Rattle.redcode_text.specs.Expression.{precedence, Tree, Binary}
use Rattle.redcode_text.specs.Trees.{rank}

pub precedence-≤5 : (s : Sign) → precedence s ≤ 5
precedence-≤5 Star = omega arith
precedence-≤5 _ = omega arith

pub rank-≤5 : (t : Tree) → rank t ≤ 5
rank-≤5 (Binary l s r) = precedence-≤5 s
rank-≤5 _ = omega arith
