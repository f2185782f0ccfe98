-- The tokens of a line's bytes, after `&` joins and loop counters are replaced.
use Rattle.std.specs.Prelude.{ℕ, zero, suc, ◌+◌, ◌-◌, ◌^◌, List, [], ◌∷◌, ◌++◌, length, take, Bool, true, false, not, ◌&&◌, ◌||◌, ◌==◌, nat_lt, pos, Option, Some, None, Result, Ok, Err, if◌then◌else◌, decimal}
use Rattle.std.specs.Char.{is_ascii, is_ascii_alphabetic, is_ascii_digit}
use Rattle.std.specs.List.{list_all, list_any, onto_first, position_or_len}
use Rattle.std.specs.Str.{bytes_eq}
use Rattle.std.specs.Str.Parse.{digits_value}
use Rattle.redcode_text.specs.Results.{◌>>=◌}
use Rattle.redcode_text.specs.Bytes.{ampersand, line_feed, underscore}
use Rattle.redcode_text.specs.Spans.{span_of}
use Rattle.redcode_text.specs.declared.token.Span.{Span}
use Rattle.redcode_text.specs.declared.token.Token.{Token}
use Rattle.redcode_text.specs.declared.token.TokenKind.{TokenKind}
use Rattle.redcode_text.specs.declared.token.TokenKind.TheVariants.{Number, Name}
use Rattle.redcode_text.specs.declared.token.TokenKind.TheVariants as token
use Rattle.redcode_text.specs.declared.token.Sign.{Sign}
use Rattle.redcode_text.specs.declared.token.Sign.TheVariants.{Equal, NotEqual, LessEqual, GreaterEqual, And, Or, Plus, Minus, Star, Slash, Percent, Bang, Less, Greater, OpenParen, CloseParen, Comma, Dot, Colon, Hash, Dollar, At, OpenBrace, CloseBrace}
use Rattle.redcode_text.specs.declared.fault.TextFault.{TextFault}
use Rattle.redcode_text.specs.declared.fault.TextProblem.{TextProblem}
use Rattle.redcode_text.specs.declared.fault.TextTokenProblem.{TextTokenProblem}
use Rattle.redcode_text.specs.declared.fault.TextProblem.TheVariants.{NotAscii, BadToken, TooLong}

-- The problem `problem` with `span`, the bytes of the token at which it arises.
abbrev pub problem_at : Option Span → TextProblem → TextTokenProblem
problem_at span problem = record { problem = problem; token = span }

-- The problem `problem` with the bytes of the token `t`.
abbrev pub problem_of : Token → TextProblem → TextTokenProblem
problem_of t problem = problem_at (Some (span_of t)) problem

-- A result whose error gets `span`, the bytes of the token at which the error arises.
abbrev pub at_token : {A : Type 0} → Option Span → Result A TextProblem → Result A TextTokenProblem
at_token span (Ok x) = Ok x
at_token span (Err e) = Err (problem_at span e)

-- A result whose error gets the line number `n`.
abbrev pub at_line : {A : Type 0} → ℕ → Result A TextTokenProblem → Result A TextFault
at_line n (Ok x) = Ok x
at_line n (Err e) = Err (record { line = n; problem = e.problem; token = e.token })

-- A result without the line number of its error.
abbrev pub without_line : {A : Type 0} → Result A TextFault → Result A TextTokenProblem
without_line (Ok x) = Ok x
without_line (Err e) = Err (record { problem = e.problem; token = e.token })

-- ---- Bytes

-- Whitespace: every byte of at most 32, except for LF.
abbrev pub is_blank : ℕ → Bool
is_blank b = nat_lt b 33 && not (b == line_feed)

-- A letter of ASCII, or `_`.
abbrev pub is_letter : ℕ → Bool
is_letter b = is_ascii_alphabetic b || b == underscore

-- A letter, a digit or `_`.
abbrev pub is_word_byte : ℕ → Bool
is_word_byte b = is_letter b || is_ascii_digit b

-- The text starts with a letter or `_`.
abbrev pub begins_name : List ℕ → Bool
begins_name [] = false
begins_name (b ∷ bs) = is_letter b

-- The text starts with a byte of a word, or with a join.
abbrev pub begins_word : List ℕ → Bool
begins_word [] = false
begins_word (b ∷ bs) = is_word_byte b || ((b == ampersand) && begins_name bs)

-- The number of bytes of the word at the start of a text, including its joins, or 0 if there is no word.
abbrev pub word_len : List ℕ → ℕ
word_len [] = 0
word_len (b ∷ bs) = elim (begins_word (b ∷ bs)) [ true ↦ word_len bs + 1 | false ↦ 0 ]

-- ---- Joins and counters

-- An open loop: its counter, if it has one, and the number of the iteration, from 1.
pub record OpenLoop : Type 0 where
  pub counter : Option (List ℕ)
  pub round : ℕ

-- A loop has a counter, and the counter is the name `name`.
abbrev pub is_counter : List ℕ → Option (List ℕ) → Bool
is_counter name (Some counter) = bytes_eq counter name
is_counter name None = false

-- The number of the iteration of the innermost loop with the counter `name`. The loops are given innermost first.
abbrev pub round_of : List OpenLoop → List ℕ → Option ℕ
round_of [] name = None
round_of (l ∷ ls) name = elim (is_counter name l.counter) [ true ↦ Some l.round | false ↦ round_of ls name ]

-- The decimal digits of the iteration number `n`, with a 0 in front if `n` is below 10.
abbrev pub round_digits : ℕ → List ℕ
round_digits n = if nat_lt n 10 then 48 ∷ decimal n else decimal n

-- The part of a word before its first `&`, and the name after each `&`.
abbrev pub parts_at_joins : List ℕ → List (List ℕ)
parts_at_joins [] = [] ∷ []
parts_at_joins (b ∷ bs) = elim (b == ampersand) [ true ↦ [] ∷ parts_at_joins bs | false ↦ onto_first b (parts_at_joins bs) ]

-- The number of the iteration, or `BadToken` if it is missing, because a name is no counter.
abbrev pub round_or_bad : Option ℕ → Result ℕ TextProblem
round_or_bad (Some n) = Ok n
round_or_bad None = Err BadToken

-- `front`, followed by the digits of the iteration of each name, which must be the counter of an open loop.
abbrev pub join_counters : List OpenLoop → List ℕ → List (List ℕ) → Result (List ℕ) TextProblem
join_counters loops front [] = Ok front
join_counters loops front (name ∷ names) = round_or_bad (round_of loops name) >>= λ n. join_counters loops (front ++ round_digits n) names

-- The word that has the given parts at its joins, with each join replaced by digits.
abbrev pub join_parts : List OpenLoop → List (List ℕ) → Result (List ℕ) TextProblem
join_parts loops [] = Ok []
join_parts loops (front ∷ names) = join_counters loops front names

-- The word `word` with each join replaced by digits.
abbrev pub joined : List OpenLoop → List ℕ → Result (List ℕ) TextProblem
joined loops word = join_parts loops (parts_at_joins word)

-- ---- Words

-- The index of `name` among `names`, or the number of `names` if `name` is new.
abbrev pub name_index : List (List ℕ) → List ℕ → ℕ
name_index names name = position_or_len (bytes_eq name) names

-- `names` with `name` appended, unless `name` is among them.
abbrev pub with_name : List (List ℕ) → List ℕ → List (List ℕ)
with_name names name = if list_any (bytes_eq name) names then names else names ++ name ∷ []

-- The token at the start of a text: its kind, its number of bytes, and all names so far, including the token's name.
pub record Found : Type 0 where
  pub kind : TokenKind
  pub len : ℕ
  pub names : List (List ℕ)

-- The kind of the token of the number `n`, which must be below 2^63.
abbrev pub number_kind : ℕ → Result TokenKind TextProblem
number_kind n = if nat_lt n (2 ^ 63) then Ok (Number (pos n)) else Err BadToken

-- The token of the number with the decimal digits `digits`, from a word of `len` bytes.
abbrev pub number_found : List (List ℕ) → ℕ → List ℕ → Result Found TextProblem
number_found names len digits = number_kind (digits_value 10 digits) >>= λ kind. Ok (record { kind = kind; len = len; names = names })

-- The token of the name `name`, which must begin with a letter, from a word of `len` bytes.
abbrev pub name_found : List (List ℕ) → ℕ → List ℕ → Result Found TextProblem
name_found names len name =
    if begins_name name then Ok (record { kind = Name (name_index names name); len = len; names = with_name names name }) else Err BadToken

-- The token of `word`, which is not a counter: a number if all its bytes are digits, or else a name.
abbrev pub plain_word_found : List (List ℕ) → ℕ → List ℕ → Result Found TextProblem
plain_word_found names len word = if list_all is_ascii_digit word then number_found names len word else name_found names len word

-- The token of `word`, which had `len` bytes before its joins were replaced. `Some round` is given if it is a counter.
abbrev pub word_found : List (List ℕ) → ℕ → List ℕ → Option ℕ → Result Found TextProblem
word_found names len word (Some round) = Ok (record { kind = Number (pos round); len = len; names = names })
word_found names len word None = plain_word_found names len word

-- The token of the word `raw`, whose joins are not replaced yet.
abbrev pub word_token : List OpenLoop → List (List ℕ) → List ℕ → Result Found TextProblem
word_token loops names raw = joined loops raw >>= λ word. word_found names (length raw) word (round_of loops word)

-- ---- Operators and punctuation

-- The sign that is written as `text`, if there is one.
abbrev pub look_up : List (List ℕ × Sign) → List ℕ → Option Sign
look_up [] text = None
look_up (p ∷ ps) text = elim (bytes_eq p.0 text) [ true ↦ Some p.1 | false ↦ look_up ps text ]

-- The signs of two bytes: == != <= >= && ||
abbrev pub two_byte_signs : List (List ℕ × Sign)
two_byte_signs =
    (61 ∷ 61 ∷ [], Equal) ∷ (33 ∷ 61 ∷ [], NotEqual) ∷ (60 ∷ 61 ∷ [], LessEqual) ∷ (62 ∷ 61 ∷ [], GreaterEqual) ∷ (38 ∷ 38 ∷ [], And) ∷ (124 ∷ 124 ∷ [], Or) ∷ []

-- The signs of one byte: + - * / % ! < > ( ) , . : # $ @ { }
abbrev pub one_byte_signs : List (List ℕ × Sign)
one_byte_signs =
    (43 ∷ [], Plus) ∷ (45 ∷ [], Minus) ∷ (42 ∷ [], Star) ∷ (47 ∷ [], Slash) ∷ (37 ∷ [], Percent) ∷ (33 ∷ [], Bang) ∷ (60 ∷ [], Less) ∷ (62 ∷ [], Greater)
    ∷ (40 ∷ [], OpenParen) ∷ (41 ∷ [], CloseParen) ∷ (44 ∷ [], Comma) ∷ (46 ∷ [], Dot) ∷ (58 ∷ [], Colon) ∷ (35 ∷ [], Hash) ∷ (36 ∷ [], Dollar) ∷ (64 ∷ [], At)
    ∷ (123 ∷ [], OpenBrace) ∷ (125 ∷ [], CloseBrace) ∷ []

-- The token of the given sign of two bytes or, without it, of the given sign of one byte.
abbrev pub sign_found : List (List ℕ) → Option Sign → Option Sign → Result Found TextProblem
sign_found names (Some sign) one = Ok (record { kind = token.Sign sign; len = 2; names = names })
sign_found names None (Some sign) = Ok (record { kind = token.Sign sign; len = 1; names = names })
sign_found names None None = Err BadToken

-- The token of the sign at the start of the text `bs`.
abbrev pub sign_token : List (List ℕ) → List ℕ → Result Found TextProblem
sign_token names bs = sign_found names (look_up two_byte_signs (take 2 bs)) (look_up one_byte_signs (take 1 bs))

-- ---- The tokens of a text

-- The token at the start of the text `bs`, which does not start with whitespace.
abbrev pub token_at : List OpenLoop → List (List ℕ) → List ℕ → Result Found TextProblem
token_at loops names bs =
    if not (list_all is_ascii (take 1 bs)) then Err NotAscii
    else if begins_word bs then word_token loops names (take (word_len bs) bs)
    else sign_token names bs

-- What has been scanned: the tokens, and the names in the order of their first use.
pub record Scanned : Type 0 where
  pub tokens : List Token
  pub names : List (List ℕ)

-- `s` with the token `f` appended, which starts at the offset `at` of the source, on the line `line`.
abbrev pub with_token : Scanned → ℕ → ℕ → Found → Scanned
with_token s line at f =
    record { tokens = s.tokens ++ record { kind = f.kind; line = line; from = at; to = at + f.len } ∷ []; names = f.names }

-- The `len` bytes of the source from the offset `at` on.
abbrev pub span_at : ℕ → ℕ → Option Span
span_at at len = Some (record { from = at; to = at + len })

-- As `with_token`, if `s` has fewer than `room` tokens, or else the error `TooLong` at the token `f`.
abbrev pub with_room : ℕ → Scanned → ℕ → ℕ → Found → Result Scanned TextTokenProblem
with_room room s line at f = if nat_lt (length s.tokens) room then Ok (with_token s line at f) else Err (problem_at (span_at at f.len) TooLong)

-- The number of bytes that an error at the start of the text `bs` concerns: all bytes of the word there, or else one.
abbrev pub unread_len : List ℕ → ℕ
unread_len bs = if begins_word bs then word_len bs else 1

-- The result of scanning the given bytes, which start at `at` in the source, after `s` was scanned. The next `skip`
-- bytes belong to the last token. There may be at most `room` tokens, including the tokens of `s`.
abbrev pub scan_from : List OpenLoop → ℕ → ℕ → ℕ → ℕ → List ℕ → Scanned → Result Scanned TextTokenProblem
scan_from loops line room at skip [] s = Ok s
scan_from loops line room at (suc skip) (b ∷ bs) s = scan_from loops line room (at + 1) skip bs s
scan_from loops line room at zero (b ∷ bs) s =
    elim (is_blank b) [
      | true ↦ scan_from loops line room (at + 1) 0 bs s
      | false ↦
          at_token (span_at at (unread_len (b ∷ bs))) (token_at loops s.names (b ∷ bs)) >>= λ f.
          with_room room s line at f >>= λ t. scan_from loops line room (at + 1) (f.len - 1) bs t
    ]

-- The tokens of a line's bytes `bs`, at most `room`, and `names` with new names. `bs` starts at `at` in the source.
abbrev pub tokens : List OpenLoop → ℕ → ℕ → ℕ → List (List ℕ) → List ℕ → Result Scanned TextTokenProblem
tokens loops line at room names bs = scan_from loops line room at 0 bs (record { tokens = []; names = names })

-- The tokens and names of a text of one line, outside loops.
unfoldable pub scanned : List ℕ → Result Scanned TextFault
scanned bs = at_line 1 (tokens [] 1 0 (length bs) [] bs)
