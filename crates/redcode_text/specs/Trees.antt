-- The trees of expressions, independent of how tokens are read: how they are spelled and arranged, and their limits.
use Rattle.std.specs.Prelude.{◌≡◌, ℕ, ◌+◌, ◌<◌, ◌≤◌, List, [], ◌∷◌, ◌++◌, Bool, true, false, ⊤}
use Rattle.redcode_text.specs.declared.token.TokenKind.{TokenKind}
use Rattle.redcode_text.specs.declared.token.TokenKind.TheVariants.{Number, Name}
use Rattle.redcode_text.specs.declared.token.TokenKind.TheVariants as token
use Rattle.redcode_text.specs.declared.token.Sign.{Sign}
use Rattle.redcode_text.specs.declared.token.Sign.TheVariants.{Plus, Minus, Bang, OpenParen, CloseParen}
use Rattle.redcode_text.specs.Expression.{max_parens, max_signs, precedence, Tree, Numeral, Named, Parens, Unary, Binary, Missing}

-- The tokens that spell a tree.
abbrev pub spelling : Tree → List TokenKind
spelling (Numeral n) = Number n ∷ []
spelling (Named n) = Name n ∷ []
spelling (Parens t) = token.Sign OpenParen ∷ (spelling t ++ token.Sign CloseParen ∷ [])
spelling (Unary s t) = token.Sign s ∷ spelling t
spelling (Binary l s r) = spelling l ++ token.Sign s ∷ spelling r
spelling Missing = []

-- The precedence of the binary operator at the root of a tree, or 0 if there is none.
abbrev pub rank : Tree → ℕ
rank (Binary l s r) = precedence s
rank _ = 0

-- The sign is a unary operator.
abbrev pub is_prefix : Sign → Bool
is_prefix Plus = true
is_prefix Minus = true
is_prefix Bang = true
is_prefix _ = false

-- The tree is arranged by precedence, and nothing in it is missing. Outside parentheses, binary operators of equal
-- precedence group to the left, looser ones are above tighter ones, and unary ones are below all of them.
abbrev pub IsLevelled : Tree → Type 0
IsLevelled (Numeral n) = Unit {0}
IsLevelled (Named n) = Unit {0}
IsLevelled (Parens t) = IsLevelled t
IsLevelled (Unary s t) = (is_prefix s ≡ true) × (rank t ≡ 0) × IsLevelled t
IsLevelled (Binary l s r) = (0 < precedence s) × (rank l ≤ precedence s) × (rank r < precedence s) × IsLevelled l × IsLevelled r
IsLevelled Missing = ⊥

-- The numbers of unary operators in a row and of open parentheses are within their limits, if `opened` parentheses are open
-- before the tree and `signs` unary operators directly precede it.
abbrev pub IsWithin : ℕ → ℕ → Tree → Type 0
IsWithin opened signs (Parens t) = (opened < max_parens) × IsWithin (opened + 1) 0 t
IsWithin opened signs (Unary s t) = (signs < max_signs) × IsWithin opened (signs + 1) t
IsWithin opened signs (Binary l s r) = IsWithin opened signs l × IsWithin opened 0 r
IsWithin opened signs _ = ⊤
