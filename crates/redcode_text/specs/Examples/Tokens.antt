-- Examples: the tokens of a line.
use Rattle.std.specs.Prelude.{◌≡◌, ℕ, List, [], ◌∷◌, pos, None, Some, Result, Ok, Err, refl, codes}
use Rattle.std.specs.Fmt.{digits}
use Rattle.redcode_text.specs.declared.token.TokenKind.{TokenKind}
use Rattle.redcode_text.specs.declared.token.TokenKind.TheVariants.{Number, Name}
use Rattle.redcode_text.specs.declared.token.TokenKind.TheVariants as token
use Rattle.redcode_text.specs.declared.token.Sign.{Sign}
use Rattle.redcode_text.specs.declared.token.Sign.TheVariants.{Equal, NotEqual, LessEqual, GreaterEqual, And, Or, Plus, Minus, Star, Slash, Percent, Bang, Less, Greater, OpenParen, CloseParen, Comma, Dot, Colon, Hash, Dollar, At, OpenBrace, CloseBrace}
use Rattle.redcode_text.specs.declared.fault.TextProblem.{TextProblem}
use Rattle.redcode_text.specs.declared.fault.TextTokenProblem.{TextTokenProblem}
use Rattle.redcode_text.specs.declared.fault.TextProblem.TheVariants.{NotAscii, BadToken, TooLong}
use Rattle.redcode_text.specs.Expression.{kinds}
use Rattle.redcode_text.specs.Tokens.{OpenLoop, Scanned, tokens, scanned}

abbrev n : ℕ → TokenKind
n k = Number (pos k)

abbrev s : Sign → TokenKind
s x = token.Sign x

-- The kinds of the tokens and the names in a result, or the problem in its error.
abbrev said : Result Scanned TextTokenProblem → Result (List TokenKind × List (List ℕ)) TextProblem
said (Ok r) = Ok (kinds r.tokens, r.names)
said (Err e) = Err e.problem

-- The kinds of the tokens of the text `bs`, outside loops, and their names, or the problem in the error.
abbrev read : List ℕ → Result (List TokenKind × List (List ℕ)) TextProblem
read bs = said (tokens [] 1 0 100 [] bs)

-- Three open loops: one with the counter `i` in iteration 1, one without a counter in iteration 3, and one with the
-- counter `j` in iteration 12.
abbrev loops : List OpenLoop
loops = record { counter = Some (codes "i"); round = 1 } ∷ record { counter = None; round = 3 } ∷ record { counter = Some (codes "j"); round = 12 } ∷ []

abbrev read_inside : List ℕ → Result (List TokenKind × List (List ℕ)) TextProblem
read_inside bs = said (tokens loops 1 0 100 [] bs)

-- Every kind of token.
pub row_kinds :
    (read (codes "DAT x_1, -007") ≡ Ok (Name 0 ∷ Name 1 ∷ s Comma ∷ s Minus ∷ n 7 ∷ [], codes "DAT" ∷ codes "x_1" ∷ []))
    × (read (codes "x y x Y") ≡ Ok (Name 0 ∷ Name 1 ∷ Name 0 ∷ Name 2 ∷ [], codes "x" ∷ codes "y" ∷ codes "Y" ∷ []))
    × (read (codes "== != <= >= && ||") ≡ Ok (s Equal ∷ s NotEqual ∷ s LessEqual ∷ s GreaterEqual ∷ s And ∷ s Or ∷ [], []))
    × (read (codes "+-*/%!<>(),.:#$@{}") ≡ Ok (s Plus ∷ s Minus ∷ s Star ∷ s Slash ∷ s Percent ∷ s Bang ∷ s Less ∷ s Greater ∷ s OpenParen ∷ s CloseParen ∷ s Comma ∷ s Dot ∷ s Colon ∷ s Hash ∷ s Dollar ∷ s At ∷ s OpenBrace ∷ s CloseBrace ∷ [], []))
    × (read (9 ∷ 13 ∷ 0 ∷ 32 ∷ []) ≡ Ok ([], []))
unfolding digits
row_kinds = (refl, refl, refl, refl, refl)

-- The longest possible token is read.
pub row_longest :
    (read (codes "<==") ≡ Err BadToken)
    × (read (codes "===!==") ≡ Err BadToken)
    × (read (codes "<=<>=!!=") ≡ Ok (s LessEqual ∷ s Less ∷ s GreaterEqual ∷ s Bang ∷ s NotEqual ∷ [], []))
    × (read (codes "a&&b") ≡ Ok (Name 0 ∷ s And ∷ Name 1 ∷ [], codes "a" ∷ codes "b" ∷ []))
    × (read (codes "9223372036854775807") ≡ Ok (n 9223372036854775807 ∷ [], []))
unfolding digits
row_longest = (refl, refl, refl, refl, refl)

-- Texts that are not tokens.
pub row_bad :
    (read (codes "9223372036854775808") ≡ Err BadToken)
    × (read (codes "1x") ≡ Err BadToken)
    × (read (codes "1_") ≡ Err BadToken)
    × (read (codes "a = b") ≡ Err BadToken)
    × (read (codes "a & b") ≡ Err BadToken)
    × (read (codes "a | b") ≡ Err BadToken)
    × (read (codes "a;b") ≡ Err BadToken)
    × (read (97 ∷ 10 ∷ 98 ∷ []) ≡ Err BadToken)
    × (read (97 ∷ 200 ∷ []) ≡ Err NotAscii)
    × (read (63 ∷ 200 ∷ []) ≡ Err BadToken)
    × (read (codes "x&i") ≡ Err BadToken)
unfolding digits
row_bad = (refl, refl, refl, refl, refl, refl, refl, refl, refl, refl, refl)

-- Joins and counters.
pub row_joins :
    (read_inside (codes "x&i") ≡ Ok (Name 0 ∷ [], codes "x01" ∷ []))
    × (read_inside (codes "x&i&j") ≡ Ok (Name 0 ∷ [], codes "x0112" ∷ []))
    × (read_inside (codes "&i") ≡ Ok (n 1 ∷ [], []))
    × (read_inside (codes "5&i") ≡ Ok (n 501 ∷ [], []))
    × (read_inside (codes "i+j") ≡ Ok (n 1 ∷ s Plus ∷ n 12 ∷ [], []))
    × (read_inside (codes "I") ≡ Ok (Name 0 ∷ [], codes "I" ∷ []))
    × (read_inside (codes "x&&i") ≡ Ok (Name 0 ∷ s And ∷ n 1 ∷ [], codes "x" ∷ []))
    × (read_inside (codes "x&&&i") ≡ Ok (Name 0 ∷ s And ∷ n 1 ∷ [], codes "x" ∷ []))
    × (read_inside (codes "x&k") ≡ Err BadToken)
    × (read_inside (codes "x&ij") ≡ Err BadToken)
    × (read_inside (codes "&i&x") ≡ Err BadToken)
    × (read_inside (codes "&ix") ≡ Err BadToken)
unfolding digits
row_joins = (refl, refl, refl, refl, refl, refl, refl, refl, refl, refl, refl, refl)

-- There is a maximum number of tokens. A bad token beyond the maximum is reported as bad.
pub row_room :
    (said (tokens [] 1 0 2 [] (codes "a b")) ≡ Ok (Name 0 ∷ Name 1 ∷ [], codes "a" ∷ codes "b" ∷ []))
    × (said (tokens [] 1 0 1 [] (codes "a b")) ≡ Err TooLong)
    × (said (tokens [] 1 0 1 [] (codes "a ?")) ≡ Err BadToken)
    × (said (tokens [] 1 0 1 [] (codes "a ")) ≡ Ok (Name 0 ∷ [], codes "a" ∷ []))
unfolding digits
row_room = (refl, refl, refl, refl)

-- The positions of the tokens.
pub row_places :
    scanned (codes " ab+ 12") ≡ Ok (record {
      tokens =
          record { kind = Name 0; line = 1; from = 1; to = 3 }
          ∷ record { kind = s Plus; line = 1; from = 3; to = 4 }
          ∷ record { kind = n 12; line = 1; from = 5; to = 7 }
          ∷ [];
      names = codes "ab" ∷ [];
    })
unfolding scanned digits
row_places = refl
