-- The lines that replace an EQU name, as the code builds them.
use Rattle.std.specs.Prelude.{ℕ, zero, suc, List, [], ◌∷◌, ◌++◌, Option, unwrap_or}
use Rattle.redcode_text.specs.Results.{◌>>=◌}
use Rattle.redcode_text.specs.declared.token.Token.{Token}
use Rattle.redcode_text.specs.Lines.{Reading, Step, line_read, operation_lines, tokens_counted}

-- The lines of an EQU name with the tokens `before` put before the first line and the tokens `behind` after the last. A
-- definition without lines gives one line.
abbrev pub used : List Token → List (List Token) → List Token → List (List Token)
used before [] behind = (before ++ behind) ∷ []
used before (l ∷ []) behind = ((before ++ l) ++ behind) ∷ []
used before (l ∷ m ∷ ls) behind = (before ++ l) ∷ used [] (m ∷ ls) behind

-- The tokens that are put before the line `at`: `ts` before the first line, none before the others.
abbrev pub before_line : List Token → ℕ → List Token
before_line ts zero = ts
before_line ts (suc at) = []

-- The lines of the definition of an operation, none if it is not an EQU name.
abbrev pub lines_under : Reading → Option ℕ → List (List Token)
lines_under st operation = unwrap_or (operation_lines st operation) []

-- The step that counts the line `l` of a definition and its tokens, and reads it by the step `ordinary`.
abbrev pub read_one : (List Token → Step) → List Token → Step
read_one ordinary l st = line_read st >>= tokens_counted l >>= ordinary l
