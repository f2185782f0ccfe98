-- The evaluation of an expression with a valid shape from left to right, with a stack of the operators and parentheses
-- that wait, and how the code represents its state.
use Rattle.std.specs.Prelude.{ℕ, List, [], ◌∷◌, ◌++◌, ◌<◌, ◌≤◌, map, slice_range, Bool, true, false, ℤ, Option, Result, Ok, Err, if◌then◌else◌, nat_le}
use Rattle.redcode_text.specs.Results.{◌>>=◌}
use Rattle.redcode_text.specs.declared.token.TokenKind.{TokenKind}
use Rattle.redcode_text.specs.declared.token.TokenKind.TheVariants.{Number, Name}
use Rattle.redcode_text.specs.declared.token.TokenKind.TheVariants as token
use Rattle.redcode_text.specs.declared.token.Sign.{Sign}
use Rattle.redcode_text.specs.declared.token.Sign.TheVariants.{OpenParen, CloseParen}
use Rattle.redcode_text.specs.declared.fault.ExprFault.{ExprFault}
use Rattle.redcode_text.specs.declared.fault.ExprFault.TheVariants.{Syntax}
use Rattle.redcode_text.specs.declared.token.Token.{Token}
use Rattle.redcode_text.specs.declared.expression.evaluation.Pending.{Pending}
use Rattle.redcode_text.specs.declared.expression.evaluation.Pending.TheVariants.{Value, Open}
use Rattle.redcode_text.specs.Code.Progress.{Progress}
use Rattle.redcode_text.specs.Expression.{precedence, unary, binary, known, kinds}

-- An entry of the stack: a value and an operator that waits for its right operand, or an open parenthesis and the unary
-- operators before it.
pub data Waiting : Type 0 where
  Left : ℤ → Sign → Waiting
  Opened : List TokenKind → Waiting

-- The value of the unary operators `xs` applied to `v`.
abbrev pub signed : List TokenKind → ℤ → Result ℤ ExprFault
signed [] v = Ok v
signed (token.Sign s ∷ xs) v = signed xs v >>= λ w. unary s w
signed (_ ∷ xs) v = signed xs v

-- The value and the stack that are left after the operators on top of the stack are applied, as long as their
-- precedence is at most `k`. `v` is the right operand of the first one.
abbrev pub reduced : ℕ → List Waiting → ℤ → Result (ℤ × List Waiting) ExprFault
reduced k [] v = Ok (v, [])
reduced k (Left u s ∷ stack) v = if nat_le (precedence s) k then (binary s u v >>= λ w. reduced k stack w) else Ok (v, Left u s ∷ stack)
reduced k (Opened signs ∷ stack) v = Ok (v, Opened signs ∷ stack)

-- The state of the evaluation. `signs` are the unary operators directly before the next token. `after` is true directly
-- after an operand, and `value` is that operand's value.
pub record State : Type 0 where
  pub stack : List Waiting
  pub signs : List TokenKind
  pub value : ℤ
  pub after : Bool

-- The state that expects an operand after the unary operators `signs`. The value `v` of the state is not used.
abbrev pub wants : ℤ → List Waiting → List TokenKind → State
wants v stack signs = record { stack = stack; signs = signs; value = v; after = false }

-- The state with the stack `stack` directly after an operand with the value `v`.
abbrev pub has : ℤ → List Waiting → State
has v stack = record { stack = stack; signs = []; value = v; after = true }

-- The state after the state `st` and the operand `n`, to which the unary operators before it are applied.
abbrev pub operand : State → ℤ → Result State ExprFault
operand st n = signed st.signs n >>= λ v. Ok (has v st.stack)

-- The loosest precedence of the waiting operators that are applied before the operator or parenthesis `s`.
abbrev pub reach : Sign → ℕ
reach CloseParen = 5
reach s = precedence s

-- The state after the operator or closing parenthesis `s`. `v` and `stack` are left after the waiting operators are
-- applied.
abbrev pub placed : Sign → ℤ → List Waiting → Result State ExprFault
placed CloseParen v (Opened signs ∷ stack) = signed signs v >>= λ w. Ok (has w stack)
placed CloseParen v _ = Err Syntax
placed s v stack = Ok (wants v (Left v s ∷ stack) [])

-- The state after the sign `s` in the state `st`, which expects an operand.
abbrev pub before_mark : State → Sign → Result State ExprFault
before_mark st OpenParen = Ok (wants st.value (Opened st.signs ∷ st.stack) [])
before_mark st s = Ok (wants st.value st.stack (st.signs ++ token.Sign s ∷ []))

-- The state after the sign `s` in the state `st`, which is directly after an operand.
abbrev pub after_mark : State → Sign → Result State ExprFault
after_mark st s = reduced (reach s) st.stack st.value >>= λ r. placed s r.0 r.1

-- The state after one more token in the state `st`. `names` has the values of names.
abbrev pub move : (ℕ → Option ℤ) → State → TokenKind → Result State ExprFault
move names st (Number n) = operand st n
move names st (Name n) = known (names n) >>= λ v. operand st v
move names st (token.Sign s) = if st.after then after_mark st s else before_mark st s

-- The value of the expression, if `st` is the state and the given tokens are still to be read.
abbrev pub run : (ℕ → Option ℤ) → State → List TokenKind → Result ℤ ExprFault
run names st [] = reduced 5 st.stack st.value >>= λ r. Ok r.0
run names st (x ∷ xs) = move names st x >>= λ next. run names next xs

-- ---- The state of the code

-- The entry of the stack that an entry of the code's stack represents. The code stores the place of unary operators in
-- the tokens `ts`.
abbrev pub waiting : List Token → Pending → Waiting
waiting ts (Value v s) = Left v s
waiting ts (Open from to) = Opened (kinds (slice_range ts from to))

abbrev pub waiting_all : List Token → List Pending → List Waiting
waiting_all ts stack = map (waiting ts) stack

-- The unary operators before each open parenthesis are among the first `n` tokens.
abbrev pub AreInside : ℕ → List Pending → Type 0
AreInside n [] = Unit {0}
AreInside n (Value v s ∷ stack) = AreInside n stack
AreInside n (Open from to ∷ stack) = (from ≤ to) × (to ≤ n) × AreInside n stack

-- If an operator is on top of the stack, it is looser than the precedence `k`, so that it is not applied.
abbrev pub StaysAt : ℕ → List Pending → Type 0
StaysAt k [] = Unit {0}
StaysAt k (Value v s ∷ stack) = k < precedence s
StaysAt k (Open from to ∷ stack) = Unit {0}

-- The top of the stack is not an open parenthesis.
abbrev pub IsNoOpen : List Pending → Type 0
IsNoOpen [] = Unit {0}
IsNoOpen (Value v s ∷ stack) = Unit {0}
IsNoOpen (Open from to ∷ stack) = ⊥

-- The state that the code's state `r` represents before the token of `ts` at the index `at`.
abbrev pub seen : List Token → ℕ → Progress → State
seen ts at r = record { stack = waiting_all ts r.stack; signs = kinds (slice_range ts r.first_sign at); value = r.value; after = r.after_operand }

-- If an operator is on top of the stack, it is looser than the precedence `k`.
abbrev pub IsLooser : ℕ → List Waiting → Type 0
IsLooser k [] = Unit {0}
IsLooser k (Left u s ∷ stack) = k < precedence s
IsLooser k (Opened signs ∷ stack) = Unit {0}

-- There are no more tokens, or the next one is a sign that applies each waiting operator no looser than `k`.
abbrev pub Follows : ℕ → List TokenKind → Type 0
Follows k [] = Unit {0}
Follows k (token.Sign s ∷ xs) = k ≤ reach s
Follows k (_ ∷ xs) = ⊥
