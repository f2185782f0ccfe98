-- Examples: the values of expressions.
use Rattle.std.specs.Prelude.{◌≡◌, ℕ, zero, suc, List, [], ◌∷◌, ◌++◌, ℤ, pos, negsuc, Option, None, Some, Result, Ok, Err, codes, refl}
use Rattle.redcode_text.specs.declared.token.TokenKind.{TokenKind}
use Rattle.redcode_text.specs.declared.token.TokenKind.TheVariants.{Number, Name}
use Rattle.redcode_text.specs.declared.token.TokenKind.TheVariants as token
use Rattle.redcode_text.specs.declared.token.Sign.{Sign}
use Rattle.redcode_text.specs.declared.token.Sign.TheVariants.{Equal, NotEqual, LessEqual, GreaterEqual, Or, And, Plus, Minus, Star, Slash, Percent, Bang, Less, Greater, OpenParen, CloseParen, Comma}
use Rattle.redcode_text.specs.declared.fault.ExprFault.{ExprFault}
use Rattle.redcode_text.specs.declared.fault.ExprFault.TheVariants.{Syntax, Unknown, DivideByZero, Range, Depth}
use Rattle.redcode_text.specs.declared.token.Span.{Span}
use Rattle.redcode_text.specs.Tokens.{scanned}
use Rattle.redcode_text.specs.Expression.{fault_span, value_of, tree_within}

abbrev n : ℕ → TokenKind
n k = Number (pos k)

abbrev s : Sign → TokenKind
s x = token.Sign x

-- The name 0 has the value 5, and no other name has a value.
abbrev names : ℕ → Option ℤ
names zero = Some (pos 5)
names (suc k) = None

abbrev eval : List TokenKind → Result ℤ ExprFault
eval xs = value_of names xs

abbrev times : ℕ → TokenKind → List TokenKind
times zero x = []
times (suc k) x = x ∷ times k x

-- Operators of equal precedence group to the left, and tighter ones come first. Division truncates towards zero.
pub row_values :
    (eval (n 2 ∷ s Plus ∷ n 3 ∷ s Star ∷ n 4 ∷ s Percent ∷ n 5 ∷ []) ≡ Ok (pos 4))
    × (eval (n 10 ∷ s Minus ∷ n 3 ∷ s Minus ∷ n 2 ∷ []) ≡ Ok (pos 5))
    × (eval (s Minus ∷ n 7 ∷ s Slash ∷ n 2 ∷ []) ≡ Ok (negsuc 2))
    × (eval (s Minus ∷ n 7 ∷ s Percent ∷ n 2 ∷ []) ≡ Ok (negsuc 0))
    × (eval (n 1 ∷ s Less ∷ n 2 ∷ s Equal ∷ n 1 ∷ []) ≡ Ok (pos 1))
    × (eval (s Bang ∷ n 0 ∷ s And ∷ n 2 ∷ []) ≡ Ok (pos 1))
    × (eval (n 2 ∷ s Star ∷ s OpenParen ∷ Name 0 ∷ s Plus ∷ n 1 ∷ s CloseParen ∷ []) ≡ Ok (pos 12))
    × (eval (n 1 ∷ s Or ∷ n 0 ∷ s And ∷ n 0 ∷ []) ≡ Ok (pos 1))
unfolding value_of tree_within
row_values = (refl, refl, refl, refl, refl, refl, refl, refl)

-- A sum with a remainder in it, a comparison with a sum in it, a conjunction with a comparison in it, two comparisons in a
-- row, each comparison with both results, and a conjunction of true values.
pub levels_and_comparisons :
    (eval (n 7 ∷ s Plus ∷ n 3 ∷ s Percent ∷ n 2 ∷ []) ≡ Ok (pos 8))
    × (eval (n 4 ∷ s Equal ∷ n 2 ∷ s Plus ∷ n 2 ∷ []) ≡ Ok (pos 1))
    × (eval (n 0 ∷ s And ∷ n 0 ∷ s Equal ∷ n 0 ∷ []) ≡ Ok (pos 0))
    × (eval (n 1 ∷ s Equal ∷ n 2 ∷ s Less ∷ n 1 ∷ []) ≡ Ok (pos 1))
    × (eval (n 2 ∷ s LessEqual ∷ n 2 ∷ []) ≡ Ok (pos 1))
    × (eval (n 3 ∷ s LessEqual ∷ n 2 ∷ []) ≡ Ok (pos 0))
    × (eval (n 2 ∷ s GreaterEqual ∷ n 2 ∷ []) ≡ Ok (pos 1))
    × (eval (n 2 ∷ s GreaterEqual ∷ n 3 ∷ []) ≡ Ok (pos 0))
    × (eval (n 3 ∷ s Greater ∷ n 2 ∷ []) ≡ Ok (pos 1))
    × (eval (n 2 ∷ s Greater ∷ n 2 ∷ []) ≡ Ok (pos 0))
    × (eval (n 2 ∷ s Less ∷ n 2 ∷ []) ≡ Ok (pos 0))
    × (eval (n 1 ∷ s NotEqual ∷ n 2 ∷ []) ≡ Ok (pos 1))
    × (eval (n 1 ∷ s NotEqual ∷ n 1 ∷ []) ≡ Ok (pos 0))
    × (eval (s Minus ∷ n 1 ∷ s And ∷ n 1 ∷ []) ≡ Ok (pos 1))
unfolding value_of tree_within
levels_and_comparisons = (refl, refl, refl, refl, refl, refl, refl, refl, refl, refl, refl, refl, refl, refl)

-- The smallest and the largest value. Both operands of || and && are evaluated. Errors of the shape come first.
pub values_are_checked :
    (eval (s Minus ∷ n 9223372036854775807 ∷ s Minus ∷ n 1 ∷ []) ≡ Ok (negsuc 9223372036854775807))
    × (eval (s Minus ∷ n 9223372036854775807 ∷ s Minus ∷ n 2 ∷ []) ≡ Err Range)
    × (eval (n 9223372036854775806 ∷ s Plus ∷ n 1 ∷ []) ≡ Ok (pos 9223372036854775807))
    × (eval (n 1 ∷ s Percent ∷ n 0 ∷ []) ≡ Err DivideByZero)
    × (eval (n 1 ∷ s Or ∷ n 1 ∷ s Slash ∷ n 0 ∷ []) ≡ Err DivideByZero)
    × (eval (n 0 ∷ s And ∷ n 1 ∷ s Slash ∷ n 0 ∷ []) ≡ Err DivideByZero)
    × (eval (s OpenParen ∷ n 1 ∷ []) ≡ Err Syntax)
    × (eval (s OpenParen ∷ n 1 ∷ s Slash ∷ n 0 ∷ s Plus ∷ n 2 ∷ []) ≡ Err Syntax)
unfolding value_of tree_within
values_are_checked = (refl, refl, refl, refl, refl, refl, refl, refl)

-- An error of the shape comes first, then the errors of the values from left to right.
pub row_faults :
    (eval (n 9223372036854775807 ∷ s Plus ∷ n 1 ∷ []) ≡ Err Range)
    × (eval (s OpenParen ∷ s Minus ∷ n 9223372036854775807 ∷ s Minus ∷ n 1 ∷ s CloseParen ∷ s Percent ∷ s Minus ∷ n 1 ∷ []) ≡ Err Range)
    × (eval (n 1 ∷ s Slash ∷ n 0 ∷ s CloseParen ∷ []) ≡ Err Syntax)
    × (eval (n 1 ∷ s Slash ∷ n 0 ∷ s Plus ∷ Name 1 ∷ []) ≡ Err DivideByZero)
    × (eval (Name 1 ∷ s Plus ∷ n 1 ∷ s Slash ∷ n 0 ∷ []) ≡ Err Unknown)
    × (eval [] ≡ Err Syntax)
    × (eval (n 1 ∷ s Comma ∷ []) ≡ Err Syntax)
unfolding value_of tree_within
row_faults = (refl, refl, refl, refl, refl, refl, refl)

-- 64 parentheses and 64 unary operators are allowed, and one more of either is not.
pub row_limits :
    (eval (times 64 (s OpenParen) ++ n 1 ∷ times 64 (s CloseParen)) ≡ Ok (pos 1))
    × (eval (times 65 (s OpenParen) ++ n 1 ∷ times 65 (s CloseParen)) ≡ Err Depth)
    × (eval (times 64 (s Minus) ++ n 1 ∷ []) ≡ Ok (pos 1))
    × (eval (times 65 (s Minus) ++ n 1 ∷ []) ≡ Err Depth)
    × (eval (times 64 (s Minus) ++ s OpenParen ∷ times 64 (s Minus) ++ n 1 ∷ s CloseParen ∷ []) ≡ Ok (pos 1))
unfolding value_of tree_within
row_limits = (refl, refl, refl, refl, refl)

abbrev at : ℕ → ℕ → Option Span
at from to = Some (record { from = from; to = to })

-- The bytes of the token at which the expression `text` has the error `fault`. The token before it is the byte 90.
abbrev place : List ℕ → ExprFault → Option Span
place text fault = elim (scanned text) [ Ok f ↦ fault_span names (at 90 91) f.tokens fault | Err e ↦ None ]

-- Each error has one token: the first that does not fit, the last one if the expression ends too early, the token
-- before an empty expression, the first name without a value, or the first token if a value is wrong.
pub places_of_errors :
    (place (codes "2*3 4 5") Syntax ≡ at 4 5)
    × (place (codes "2*(3+4") Syntax ≡ at 5 6)
    × (place (codes "") Syntax ≡ at 90 91)
    × (place (codes "a+bb*c") Unknown ≡ at 2 4)
    × (place (codes "2*(3/0)") DivideByZero ≡ at 0 1)
    × (place (codes "22*(3-4)") Range ≡ at 0 2)
unfolding scanned
places_of_errors = (refl, refl, refl, refl, refl, refl)
