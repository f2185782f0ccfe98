-- The shape and the value of an expression, and the tokens at which errors of expressions arise.
use Rattle.std.specs.Prelude.{ℕ, ◌+◌, ◌-◌, ◌^◌, List, [], ◌∷◌, Bool, true, false, not, ◌&&◌, ◌||◌, ℤ, pos, negsuc, ◌+ℤ◌, ◌-ℤ◌, ◌*ℤ◌, neg_ℤ, int_lt, int_div, int_rem, Option, Some, None, Result, Ok, Err, if◌then◌else◌, zero, suc, length, nat_lt, nat_le, ◌==◌, map, is_none, option_map}
use Rattle.std.specs.List.{find}
use Rattle.std.specs.Ordering.{int_eq}
use Rattle.redcode_text.specs.Results.{◌>>=◌}
use Rattle.redcode_text.specs.declared.token.Token.{Token}
use Rattle.redcode_text.specs.declared.token.TokenKind.{TokenKind}
use Rattle.redcode_text.specs.declared.token.TokenKind.TheVariants.{Number, Name}
use Rattle.redcode_text.specs.declared.token.TokenKind.TheVariants as token
use Rattle.redcode_text.specs.declared.token.Sign.{Sign}
use Rattle.redcode_text.specs.declared.token.Sign.TheVariants.{Equal, NotEqual, LessEqual, GreaterEqual, And, Or, Plus, Minus, Star, Slash, Percent, Bang, Less, Greater, OpenParen, CloseParen}
use Rattle.redcode_text.specs.declared.fault.ExprFault.{ExprFault}
use Rattle.redcode_text.specs.declared.fault.ExprFault.TheVariants.{Syntax, Unknown, DivideByZero, Range, Depth}
use Rattle.redcode_text.specs.declared.token.Span.{Span}
use Rattle.redcode_text.specs.Spans.{first_span, last_span, span_of}
use Rattle.redcode_text.specs.declared.expression.shape.ShapeState.{ShapeState}

-- The kinds of tokens, without their positions.
abbrev pub kinds : List Token → List TokenKind
kinds tokens = map (λ t. t.kind) tokens

-- ---- Shape

-- The precedence of a binary operator: 1 binds tightest, 5 loosest. It is 0 for any other sign.
abbrev pub precedence : Sign → ℕ
precedence Star = 1
precedence Slash = 1
precedence Percent = 1
precedence Plus = 2
precedence Minus = 2
precedence Equal = 3
precedence NotEqual = 3
precedence Less = 3
precedence Greater = 3
precedence LessEqual = 3
precedence GreaterEqual = 3
precedence And = 4
precedence Or = 5
precedence _ = 0

-- The maximum number of unary operators in a row.
abbrev pub max_signs : ℕ
max_signs = 64

-- The maximum number of open parentheses.
abbrev pub max_parens : ℕ
max_parens = 64

-- The state after the state `p` and one more unary operator.
abbrev pub one_more_sign : ShapeState → Result ShapeState ExprFault
one_more_sign p = if nat_le max_signs p.signs then Err Depth else Ok (record { opened = p.opened; signs = p.signs + 1; after_operand = false })

-- The state after a sign in the state `p`, which expects an operand.
abbrev pub before_sign : ShapeState → Sign → Result ShapeState ExprFault
before_sign p Plus = one_more_sign p
before_sign p Minus = one_more_sign p
before_sign p Bang = one_more_sign p
before_sign p OpenParen = if nat_le max_parens p.opened then Err Depth else Ok (record { opened = p.opened + 1; signs = 0; after_operand = false })
before_sign p _ = Err Syntax

-- The state after a sign in the state `p`, which expects a binary operator or a closing parenthesis.
abbrev pub after_sign : ShapeState → Sign → Result ShapeState ExprFault
after_sign p CloseParen = if p.opened == 0 then Err Syntax else Ok (record { opened = p.opened - 1; signs = 0; after_operand = true })
after_sign p s = if precedence s == 0 then Err Syntax else Ok (record { opened = p.opened; signs = 0; after_operand = false })

-- The state after an operand in the state `p`.
abbrev pub operand_at : ShapeState → Result ShapeState ExprFault
operand_at p = if p.after_operand then Err Syntax else Ok (record { opened = p.opened; signs = 0; after_operand = true })

-- The state after one more token in the state `p`.
abbrev pub next_state : ShapeState → TokenKind → Result ShapeState ExprFault
next_state p (Number n) = operand_at p
next_state p (Name n) = operand_at p
next_state p (token.Sign s) = if p.after_operand then after_sign p s else before_sign p s

-- `Ok` if the tokens complete an expression from the state `p` on, or else the error of the first token that does not
-- fit or, if every token fits, of the end.
abbrev pub shape : ShapeState → List TokenKind → Result (Unit {0}) ExprFault
shape p [] = if p.after_operand && (p.opened == 0) then Ok tt else Err Syntax
shape p (x ∷ xs) = next_state p x >>= λ q. shape q xs

-- The state before the first token.
abbrev pub start : ShapeState
start = record { opened = 0; signs = 0; after_operand = false }

-- The bytes of the first token that cannot continue an expression from the state `p` on, if there is one.
abbrev pub misfit : ShapeState → List Token → Option Span
misfit p [] = None
misfit p (t ∷ ts) = elim (next_state p t.kind) [ Ok q ↦ misfit q ts | Err e ↦ Some (span_of t) ]

-- ---- Values

-- 1 if `b` is true, and 0 if `b` is false.
abbrev pub truth : Bool → ℤ
truth b = if b then pos 1 else pos 0

-- The number `z` counts as true if it is not 0.
abbrev pub is_true : ℤ → Bool
is_true z = not (int_eq z (pos 0))

-- The given number, if it fits a signed integer of 64 bits, or else `Range`.
abbrev pub in_range : ℤ → Result ℤ ExprFault
in_range (pos n) = if nat_lt n (2 ^ 63) then Ok (pos n) else Err Range
in_range (negsuc n) = if nat_lt n (2 ^ 63) then Ok (negsuc n) else Err Range

-- The value of the given binary operator applied to `a` and `b`.
abbrev pub binary : Sign → ℤ → ℤ → Result ℤ ExprFault
binary Or a b = Ok (truth (is_true a || is_true b))
binary And a b = Ok (truth (is_true a && is_true b))
binary Equal a b = Ok (truth (int_eq a b))
binary NotEqual a b = Ok (truth (not (int_eq a b)))
binary Less a b = Ok (truth (int_lt a b))
binary Greater a b = Ok (truth (int_lt b a))
binary LessEqual a b = Ok (truth (not (int_lt b a)))
binary GreaterEqual a b = Ok (truth (not (int_lt a b)))
binary Plus a b = in_range (a +ℤ b)
binary Minus a b = in_range (a -ℤ b)
binary Star a b = in_range (a *ℤ b)
binary Slash a b = if int_eq b (pos 0) then Err DivideByZero else in_range (int_div a b)
binary Percent a b = if int_eq b (pos 0) then Err DivideByZero else (in_range (int_div a b) >>= λ _. Ok (int_rem a b))
binary _ a b = Err Syntax

-- The value of the given unary operator applied to `a`.
abbrev pub unary : Sign → ℤ → Result ℤ ExprFault
unary Plus a = Ok a
unary Minus a = in_range (neg_ℤ a)
unary Bang a = Ok (truth (int_eq a (pos 0)))
unary _ a = Err Syntax

-- ---- Trees

-- The tree of an expression. `Named` has the index of a name. `Missing` is the tree of no tokens.
pub data Tree : Type 0 where
  Numeral : ℤ → Tree
  Named : ℕ → Tree
  Parens : Tree → Tree
  Unary : Sign → Tree → Tree
  Binary : Tree → Sign → Tree → Tree
  Missing : Tree

-- The tokens before a binary operator, the operator, and the tokens after it.
pub record OperatorSplit : Type 0 where
  pub before : List TokenKind
  pub sign : Sign
  pub after : List TokenKind

-- The token as a binary operator of precedence `k`, if it is one. It must be outside parentheses, so that `depth` is 0,
-- and follow an operand, so that `after` is true.
abbrev pub operator_at : ℕ → ℕ → Bool → TokenKind → Option Sign
operator_at k depth after (token.Sign s) = if after && (depth == 0) && (precedence s == k) then Some s else None
operator_at k depth after _ = None

-- The number of open parentheses after a token, if it is `depth` before it.
abbrev pub depth_after : ℕ → TokenKind → ℕ
depth_after depth (token.Sign OpenParen) = depth + 1
depth_after depth (token.Sign CloseParen) = depth - 1
depth_after depth _ = depth

-- The token can be the last one of an operand.
abbrev pub ends_operand : TokenKind → Bool
ends_operand (token.Sign CloseParen) = true
ends_operand (token.Sign _) = false
ends_operand _ = true

-- The split of the token `x` and the tokens `xs` after it. It is at the operator found in `xs`, if there is one, or
-- else at `x`, if `x` is the operator `here`.
abbrev pub later_or : Option OperatorSplit → TokenKind → Option Sign → List TokenKind → Option OperatorSplit
later_or (Some p) x here xs = Some (record { before = x ∷ p.before; sign = p.sign; after = p.after })
later_or None x (Some s) xs = Some (record { before = []; sign = s; after = xs })
later_or None x None xs = None

-- The split at the last binary operator of precedence `k` outside parentheses. At the start, `depth` parentheses are
-- open, and `after` is true if an operand precedes.
abbrev pub last_operator : ℕ → ℕ → Bool → List TokenKind → Option OperatorSplit
last_operator k depth after [] = None
last_operator k depth after (x ∷ xs) = later_or (last_operator k (depth_after depth x) (ends_operand x) xs) x (operator_at k depth after x) xs

-- The tokens without the last one.
abbrev pub without_last : List TokenKind → List TokenKind
without_last [] = []
without_last (x ∷ []) = []
without_last (x ∷ y ∷ ys) = x ∷ without_last (y ∷ ys)

-- The tree of tokens without a binary operator outside parentheses. `tree` gives the trees of fewer tokens.
abbrev pub primary : (ℕ → List TokenKind → Tree) → List TokenKind → Tree
primary tree [] = Missing
primary tree (Number n ∷ xs) = Numeral n
primary tree (Name n ∷ xs) = Named n
primary tree (token.Sign OpenParen ∷ xs) = Parens (tree 5 (without_last xs))
primary tree (token.Sign s ∷ xs) = Unary s (tree 0 xs)

-- The tree of tokens with the given split at a binary operator of precedence `k` + 1, or else the tree `tighter`.
abbrev pub parted : (ℕ → List TokenKind → Tree) → ℕ → Option OperatorSplit → Tree → Tree
parted tree k (Some p) tighter = Binary (tree (suc k) p.before) p.sign (tree k p.after)
parted tree k None tighter = tighter

-- The tree of the tokens `xs`, whose binary operators outside parentheses have at most the given precedence. The last
-- of the loosest operators splits `xs`. `tree` gives the trees of fewer tokens.
abbrev pub at_level : (ℕ → List TokenKind → Tree) → ℕ → List TokenKind → Tree
at_level tree zero xs = primary tree xs
at_level tree (suc k) xs = parted tree k (last_operator (suc k) 0 false xs) (at_level tree k xs)

-- The tree of the tokens `xs`, of which there are at most the given number, and whose binary operators outside
-- parentheses have a precedence of at most `k`.
unfoldable pub tree_within : ℕ → ℕ → List TokenKind → Tree
tree_within zero k xs = Missing
tree_within (suc n) k xs = at_level (tree_within n) k xs

-- The value of a name, or the error that it has none.
abbrev pub known : Option ℤ → Result ℤ ExprFault
known (Some v) = Ok v
known None = Err Unknown

-- The value of a tree. `names` has the values of names.
abbrev pub value : (ℕ → Option ℤ) → Tree → Result ℤ ExprFault
value names (Numeral n) = Ok n
value names (Named n) = known (names n)
value names (Parens t) = value names t
value names (Unary s t) = value names t >>= λ v. unary s v
value names (Binary l s r) = value names l >>= λ a. value names r >>= λ b. binary s a b
value names Missing = Err Syntax

-- The value of the expression `xs`, or its first error. The shape is checked before any value is computed.
unfoldable pub value_of : (ℕ → Option ℤ) → List TokenKind → Result ℤ ExprFault
value_of names xs = shape start xs >>= λ _. value names (tree_within (length xs) 5 xs)

-- ---- Positions of errors

-- The token is a name without a value.
abbrev pub is_unknown : (ℕ → Option ℤ) → TokenKind → Bool
is_unknown names (Name n) = is_none (names n)
is_unknown names _ = false

-- The bytes of the first name among the tokens `ts` that has no value, if there is one.
abbrev pub unknown_name : (ℕ → Option ℤ) → List Token → Option Span
unknown_name names ts = option_map span_of (find (λ t. is_unknown names t.kind) ts)

-- The first span, or `other` if there is none.
abbrev pub found_or : Option Span → Option Span → Option Span
found_or (Some s) other = Some s
found_or None other = other

-- The bytes of the token at which the expression `ts` has the given error: the first name without a value for
-- `Unknown`, the first token for `DivideByZero` and `Range`, and otherwise the token that cannot continue the
-- expression, or the last one if the expression ends too early. An expression without tokens has its error at the token
-- `before`.
abbrev pub fault_span : (ℕ → Option ℤ) → Option Span → List Token → ExprFault → Option Span
fault_span names before ts Unknown = unknown_name names ts
fault_span names before ts DivideByZero = first_span ts
fault_span names before ts Range = first_span ts
fault_span names before ts _ = found_or (misfit start ts) (last_span before ts)
