-- EQU names, and their replacement in tokens.
use Rattle.std.specs.Prelude.{ℕ, zero, suc, ◌+◌, List, [], ◌∷◌, ◌++◌, length, true, false, Option, Some, None, Result, Ok, Err, nat_le, ◌==◌}
use Rattle.redcode_text.specs.Results.{◌>>=◌}
use Rattle.redcode_text.specs.declared.token.Token.{Token}
use Rattle.redcode_text.specs.declared.token.TokenKind.{TokenKind}
use Rattle.redcode_text.specs.declared.token.TokenKind.TheVariants.{Name}
use Rattle.redcode_text.specs.declared.fault.TextTokenProblem.{TextTokenProblem}
use Rattle.redcode_text.specs.declared.fault.TextProblem.TheVariants.{BadToken, EquDepth, TooLong}
use Rattle.redcode_text.specs.declared.fault.TextFault.{TextFault}
use Rattle.redcode_text.specs.Tokens.{at_line, problem_of}

-- The limit on the number of lines, of tokens and of replacements.
abbrev pub limit : ℕ
limit = 65536

-- The maximum depth of nested replacements.
abbrev pub depth_limit : ℕ
depth_limit = 32

-- An EQU name, by its index among the names, and the lines of its definition.
pub record Equate : Type 0 where
  pub name : ℕ
  pub lines : List (List Token)

-- The lines of the definition of the name `name`, if it is an EQU name.
abbrev pub equate_lines : List Equate → ℕ → Option (List (List Token))
equate_lines [] name = None
equate_lines (e ∷ es) name = elim (name == e.name) [ true ↦ Some e.lines | false ↦ equate_lines es name ]

-- The lines of the definition of a token, if it is an EQU name.
abbrev pub token_lines : List Equate → TokenKind → Option (List (List Token))
token_lines equates (Name n) = equate_lines equates n
token_lines equates _ = None

-- The resulting tokens so far, and the number of names that were replaced.
pub record Replaced : Type 0 where
  pub tokens : List Token
  pub count : ℕ

-- A function that appends tokens to a result, with EQU names replaced.
abbrev pub Replacing : Type 0
Replacing = Replaced → List Token → Result Replaced TextTokenProblem

-- The tokens of the definition of the EQU name `t`, whose lines are given, or an error if there are several lines.
abbrev pub one_line : Token → List (List Token) → Result (List Token) TextTokenProblem
one_line t [] = Ok []
one_line t (line ∷ []) = Ok line
one_line t (line ∷ next ∷ lines) = Err (problem_of t BadToken)

-- `r` with one more replacement, of the name `t`, unless the limit is reached.
abbrev pub one_more : Token → Replaced → Result Replaced TextTokenProblem
one_more t r = elim (nat_le limit r.count) [ true ↦ Err (problem_of t TooLong) | false ↦ Ok (record { tokens = r.tokens; count = r.count + 1 }) ]

-- `r` with the line of the definition of the EQU name `t` appended, in which `deeper` replaces EQU names. Without
-- `deeper` the nesting is too deep.
abbrev pub replaced_name : Option Replacing → Replaced → Token → List (List Token) → Result Replaced TextTokenProblem
replaced_name None r t lines = Err (problem_of t EquDepth)
replaced_name (Some deeper) r t lines = one_line t lines >>= λ line. one_more t r >>= λ s. deeper s line

-- `r` with the token `t` appended, which is not an EQU name, unless the limit is reached.
abbrev pub kept_token : Replaced → Token → Result Replaced TextTokenProblem
kept_token r t = elim (nat_le limit (length r.tokens)) [ true ↦ Err (problem_of t TooLong) | false ↦ Ok (record { tokens = r.tokens ++ t ∷ []; count = r.count }) ]

-- `r` with the token `t` appended or, if it is an EQU name, the line of its definition.
abbrev pub replaced_token : Option Replacing → Replaced → Token → Option (List (List Token)) → Result Replaced TextTokenProblem
replaced_token deeper r t (Some lines) = replaced_name deeper r t lines
replaced_token deeper r t None = kept_token r t

-- `r` with the given tokens appended. Each EQU name is replaced, and `deeper` replaces the names in its definition.
abbrev pub each_replaced : List Equate → Option Replacing → Replacing
each_replaced equates deeper r [] = Ok r
each_replaced equates deeper r (t ∷ ts) = replaced_token deeper r t (token_lines equates t.kind) >>= λ s. each_replaced equates deeper s ts

-- The function that replaces EQU names in a definition, if replacements may nest to the given depth, or none for 0.
abbrev pub replacing : ℕ → List Equate → Option Replacing
replacing zero equates = None
replacing (suc depth) equates = Some (each_replaced equates (replacing depth equates))

-- The tokens of a source with each EQU name replaced, appended to `r`. An error has the line of the token that caused
-- it, and the bytes of the token at which it arises, which may be in a definition.
abbrev pub each_replaced_at_line : List Equate → Replaced → List Token → Result Replaced TextFault
each_replaced_at_line equates r [] = Ok r
each_replaced_at_line equates r (t ∷ ts) =
    at_line t.line (replaced_token (replacing depth_limit equates) r t (token_lines equates t.kind)) >>= λ s. each_replaced_at_line equates s ts

-- The tokens `ts` with each EQU name replaced.
abbrev pub substitution : List Equate → List Token → Result (List Token) TextFault
substitution equates ts = each_replaced_at_line equates (record { tokens = []; count = 0 }) ts >>= λ r. Ok r.tokens
