-- The progress of the evaluation of an expression, independent of the size of its stack.
use Rattle.std.specs.Prelude.{ℕ, ℤ, List, Bool}
use Rattle.redcode_text.specs.declared.expression.evaluation.Pending.{Pending}

-- The stack, the index of the first unary operator directly before the next token, and the value of the last operand.
-- `after_operand` is true directly after that operand.
pub record Progress : Type 0 where
  pub stack : List Pending
  pub first_sign : ℕ
  pub value : ℤ
  pub after_operand : Bool
