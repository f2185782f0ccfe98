-- The evaluation of `Climbing` on the state of the code, and an invariant of that state.
use Rattle.std.specs.Prelude.{◌≡◌, ℕ, List, [], ◌∷◌, ◌+◌, ◌-◌, ◌<◌, ◌≤◌, length, slice_range, true, false, ℤ, Option, Result, Ok, Err, if◌then◌else◌, nat_le}
use Rattle.redcode_text.specs.Results.{◌>>=◌}
use Rattle.redcode_text.specs.declared.token.Token.{Token}
use Rattle.redcode_text.specs.declared.token.TokenKind.{TokenKind}
use Rattle.redcode_text.specs.declared.token.TokenKind.TheVariants.{Number, Name}
use Rattle.redcode_text.specs.declared.token.TokenKind.TheVariants as token
use Rattle.redcode_text.specs.declared.token.Sign.{Sign}
use Rattle.redcode_text.specs.declared.token.Sign.TheVariants.{OpenParen, CloseParen}
use Rattle.redcode_text.specs.declared.fault.ExprFault.{ExprFault}
use Rattle.redcode_text.specs.declared.fault.ExprFault.TheVariants.{Syntax}
use Rattle.redcode_text.specs.declared.expression.evaluation.Pending.{Pending}
use Rattle.redcode_text.specs.declared.expression.evaluation.Pending.TheVariants.{Value, Open}
use Rattle.redcode_text.specs.declared.expression.shape.ShapeState.{ShapeState}
use Rattle.redcode_text.specs.Code.Progress.{Progress}
use Rattle.redcode_text.specs.Expression.{max_parens, precedence, binary, kinds, known}
use Rattle.redcode_text.specs.Code.Climbing.{signed, AreInside, StaysAt}

-- The value and the stack that are left after the operators on top of the code's stack are applied, as long as their
-- precedence is at most `k`. `v` is the right operand of the first one. `reduced` of `Climbing` has another form of stack.
abbrev pub reduced_on : ℕ → List Pending → ℤ → Result (ℤ × List Pending) ExprFault
reduced_on k [] v = Ok (v, [])
reduced_on k (Value u s ∷ stack) v = if nat_le (precedence s) k then (binary s u v >>= λ w. reduced_on k stack w) else Ok (v, Value u s ∷ stack)
reduced_on k (Open from to ∷ stack) v = Ok (v, Open from to ∷ stack)

-- `read` has the value that the code returned and the stack `stack`, or the error that the code returned.
abbrev pub GivesOn : {A B : Type 0} → B → Result A ExprFault → Result (A × B) ExprFault → Type 0
GivesOn stack (Ok v) read = read ≡ Ok (v, stack)
GivesOn stack (Err e) read = read ≡ Err e

-- `read` has the error that the code returned, or else the state `after`.
abbrev pub GivesState : {B : Type 0} → B → Result (Unit {0}) ExprFault → Result B ExprFault → Type 0
GivesState after (Ok v) read = read ≡ Ok after
GivesState after (Err e) read = read ≡ Err e

-- The state after the binary operator `s` in the state `r`. The operator is the token at the index `at`.
abbrev pub operated : ℕ → Sign → Progress → Result Progress ExprFault
operated at s r = reduced_on (precedence s) r.stack r.value >>= λ x. Ok (record { stack = Value x.0 s ∷ x.1; first_sign = at + 1; value = x.0; after_operand = false })

-- The state after the closing parenthesis at the index `at`. `v` and the given stack are left after the operators
-- inside the parentheses were applied.
abbrev pub popped : List Token → ℕ → ℤ → List Pending → Result Progress ExprFault
popped ts at v (Open from to ∷ stack) = signed (kinds (slice_range ts from to)) v >>= λ w. Ok (record { stack = stack; first_sign = at + 1; value = w; after_operand = true })
popped ts at v _ = Err Syntax

-- The state after the closing parenthesis at the index `at`.
abbrev pub closed_on : List Token → ℕ → Progress → Result Progress ExprFault
closed_on ts at r = reduced_on 5 r.stack r.value >>= λ x. popped ts at x.0 x.1

-- The state after the operand at the index `at`, whose value is `v`.
abbrev pub taken : List Token → ℕ → Progress → ℤ → Result Progress ExprFault
taken ts at r v = signed (kinds (slice_range ts r.first_sign at)) v >>= λ w. Ok (record { stack = r.stack; first_sign = at + 1; value = w; after_operand = true })

-- The state after the open parenthesis at the index `at`.
abbrev pub opened_on : ℕ → Progress → Progress
opened_on at r = record { stack = Open r.first_sign at ∷ r.stack; first_sign = at + 1; value = r.value; after_operand = false }

-- The state after the sign at the index `at`, where an operand is expected.
abbrev pub before_on : ℕ → Progress → Sign → Progress
before_on at r OpenParen = opened_on at r
before_on at r s = r

-- The state after the sign at the index `at`, which follows an operand.
abbrev pub after_on : List Token → ℕ → Progress → Sign → Result Progress ExprFault
after_on ts at r CloseParen = closed_on ts at r
after_on ts at r s = operated at s r

-- The state after one more token, which has the index `at`.
abbrev pub advance : (ℕ → Option ℤ) → List Token → ℕ → Progress → TokenKind → Result Progress ExprFault
advance names ts at r (Number n) = taken ts at r n
advance names ts at r (Name n) = known (names n) >>= λ v. taken ts at r v
advance names ts at r (token.Sign s) = if r.after_operand then after_on ts at r s else Ok (before_on at r s)

-- The value of a state in which all tokens have been read.
abbrev pub finished : Progress → Result ℤ ExprFault
finished r = reduced_on 5 r.stack r.value >>= λ x. Ok x.0

-- The value after the remaining tokens have been read, the first of which has the index `at`.
abbrev pub run_on : (ℕ → Option ℤ) → List Token → ℕ → Progress → List Token → Result ℤ ExprFault
run_on names ts at r [] = finished r
run_on names ts at r (t ∷ rest) = advance names ts at r t.kind >>= λ q. run_on names ts (at + 1) q rest

-- Each waiting operator is tighter than an operator directly below it, and `n` parentheses are open.
abbrev pub IsOrdered : List Pending → ℕ → Type 0
IsOrdered [] n = n ≡ 0
IsOrdered (Value v s ∷ stack) n = (0 < precedence s) × StaysAt (precedence s) stack × IsOrdered stack n
IsOrdered (Open from to ∷ stack) n = (0 < n) × IsOrdered stack (n - 1)

-- The code's state `r` before the token at the index `n` corresponds to the state `p` of the shape. The stack has at
-- most one entry for each token read.
pub record Corresponds (n : ℕ) (r : Progress) (p : ShapeState) : Type 0 where
  pub ordered : IsOrdered r.stack p.opened
  pub opened : p.opened ≤ max_parens
  pub after : r.after_operand ≡ p.after_operand
  pub inside : AreInside n r.stack
  pub first : r.first_sign ≤ n
  pub counted : length r.stack ≤ n
