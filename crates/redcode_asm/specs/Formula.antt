-- Score formulas: expressions in W, the number of warriors, and S, the number of survivors.
use Rattle.std.specs.Prelude.{◌≡◌, ⊤, true, ℕ, ℤ, List, length, Bool, ◌||◌, Option, Some, None, Result, Ok, Err, if◌then◌else◌, nat_lt, codes}
use Rattle.std.specs.List.{list_all}
use Rattle.std.specs.Str.{bytes_eq}
use Rattle.redcode_text.specs.Results.{◌>>=◌}
use Rattle.redcode_text.specs.declared.fault.ExprFault.{ExprFault}
use Rattle.redcode_text.specs.declared.fault.ExprFault.TheVariants.{Syntax, Unknown}
use Rattle.redcode_asm.specs.declared.fault.FormulaFault.{FormulaFault}
use Rattle.redcode_asm.specs.declared.fault.FormulaFault.TheVariants.{Expression, OutOfMemory}
use Rattle.redcode_text.specs.declared.fault.TextFault.{TextFault}
use Rattle.redcode_text.specs.declared.token.TokenKind.{TokenKind}
use Rattle.redcode_text.specs.declared.token.TokenKind.TheVariants.{Name}
use Rattle.redcode_text.specs.Expression.{kinds, shape, start, value_of}
use Rattle.redcode_text.specs.Lines.{name_at}
use Rattle.redcode_text.specs.Tokens.{Scanned, scanned}

-- The name is W or S.
abbrev pub is_variable : List ℕ → Bool
is_variable name = bytes_eq name (codes "W") || bytes_eq name (codes "S")

-- The token may occur in a formula: it is W, S or no name.
abbrev pub may_occur : List (List ℕ) → TokenKind → Bool
may_occur names (Name n) = is_variable (name_at names n)
may_occur names _ = true

-- The tokens and names `f`, if they form a formula, or else the error. A bad shape is found before an unknown name.
abbrev pub checked_formula : Scanned → Result Scanned ExprFault
checked_formula f = shape start (kinds f.tokens) >>= λ _. if list_all (may_occur f.names) (kinds f.tokens) then Ok f else Err Unknown

-- The formula of the result of scanning a text. A text that is not made of tokens has the error Syntax.
abbrev pub scanned_formula : Result Scanned TextFault → Result Scanned ExprFault
scanned_formula (Ok f) = checked_formula f
scanned_formula (Err e) = Err Syntax

-- The formula of `text`, which may have at most 256 bytes, or else the error Syntax.
abbrev pub formula_of : List ℕ → Result Scanned ExprFault
formula_of text = if nat_lt 256 (length text) then Err Syntax else scanned_formula (scanned text)

-- The value of the name `name` if W is `w` and S is `s`.
abbrev pub variable_value : ℤ → ℤ → List ℕ → Option ℤ
variable_value w s name = if bytes_eq name (codes "W") then Some w else if bytes_eq name (codes "S") then Some s else None

-- The value of the formula `f` for `w` warriors and `s` survivors.
abbrev pub score_of : Scanned → ℤ → ℤ → Result ℤ ExprFault
score_of f w s = value_of (λ n. variable_value w s (name_at f.names n)) (kinds f.tokens)

-- The result is the formula or the error that `defined` has, unless memory ran out.
abbrev pub Checks : Result Scanned FormulaFault → Result Scanned ExprFault → Type 0
Checks (Ok f) defined = defined ≡ Ok f
Checks (Err (Expression e)) defined = defined ≡ Err e
Checks (Err OutOfMemory) defined = ⊤
