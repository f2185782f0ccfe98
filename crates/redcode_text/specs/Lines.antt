-- What a line adds to everything that has been read.
use Rattle.std.specs.Prelude.{ℕ, zero, suc, ◌+◌, ◌-◌, List, [], ◌∷◌, ◌++◌, length, drop, take, map, filter, reverse, Bool, true, false, not, ◌&&◌, ◌||◌, ℤ, pos, Option, Some, None, Result, Ok, Err, nat_lt, nat_le, ◌==◌, codes, is_some, unwrap_or, slice_get}
use Rattle.std.specs.List.{list_any}
use Rattle.std.specs.Str.{bytes_eq, str_eq_ignore_ascii_case}
use Rattle.redcode_text.specs.Results.{◌>>=◌}
use Rattle.redcode_text.specs.declared.token.Token.{Token}
use Rattle.redcode_text.specs.declared.token.TokenKind.{TokenKind}
use Rattle.redcode_text.specs.declared.token.TokenKind.TheVariants.{Name}
use Rattle.redcode_text.specs.declared.token.TokenKind.TheVariants as token
use Rattle.redcode_text.specs.declared.token.Sign.TheVariants.{Colon}
use Rattle.redcode_text.specs.declared.fault.TextTokenProblem.{TextTokenProblem}
use Rattle.redcode_text.specs.declared.fault.TextProblem.TheVariants.{BadToken, Duplicate, EquDepth, TooLong}
use Rattle.redcode_text.specs.Bytes.{first_printed, last_printed, question_mark, semicolon}
use Rattle.redcode_text.specs.declared.token.Span.{Span}
use Rattle.redcode_text.specs.Spans.{first_span, last_span, span_of}
use Rattle.redcode_text.specs.Tokens.{OpenLoop, problem_at, problem_of, tokens}
use Rattle.redcode_text.specs.Source.{SourceRow, LineKind, EquLine, line_kind, is_comment, has_directive_word, directive_text, directive_text_at, without_blanks}
use Rattle.redcode_text.specs.Equates.{Equate, depth_limit, equate_lines, limit}

-- ---- Everything that has been read

-- A line that was read: its line number, its labels and its operation, as indices into the names, and the tokens after
-- them. `operation_span` has the bytes of the operation or, if there is none, of the last token before `rest`, because
-- an unknown operation is read as a label.
pub record Line : Type 0 where
  pub number : ℕ
  pub labels : List ℕ
  pub operation : Option ℕ
  pub operation_span : Option Span
  pub rest : List Token

-- An assert: its line number, the number of instructions before it, and its expression.
pub record Assert : Type 0 where
  pub number : ℕ
  pub current_line : ℕ
  pub tokens : List Token

-- Everything that has been read of a source: its names, EQU names and lines, its name, author and asserts, and the
-- numbers of instructions, of lines and of tokens so far. `ended` is true after an END.
pub record Reading : Type 0 where
  -- The open loops, innermost first.
  pub loops : List OpenLoop
  pub names : List (List ℕ)
  pub equates : List Equate
  -- True if an EQU line without a name continues the definition of the last EQU name.
  pub equate_grows : Bool
  pub lines : List Line
  pub instructions : ℕ
  pub lines_read : ℕ
  pub tokens_read : ℕ
  pub name : List ℕ
  pub author : List ℕ
  pub asserts : List Assert
  pub ended : Bool

-- A step that reads a part of a source, and returns everything read including that part, or an error.
abbrev pub Step : Type 0
Step = Reading → Result Reading TextTokenProblem

-- The predefined names with their values, without CURLINE.
abbrev pub Predefined : Type 0
Predefined = List (List ℕ × ℤ)

-- The value of the predefined name `name`, if it is one.
abbrev pub predefined_value : Predefined → List ℕ → Option ℤ
predefined_value [] name = None
predefined_value (p ∷ ps) name = elim (bytes_eq p.0 name) [ true ↦ Some p.1 | false ↦ predefined_value ps name ]

-- `ps` with CURLINE, whose value is `instructions`, the number of instructions so far.
abbrev pub with_current_line : Predefined → ℕ → Predefined
with_current_line ps instructions = (codes "CURLINE", pos instructions) ∷ ps

-- The name with the index `n` in `names`, or the empty name if there is none.
abbrev pub name_at : List (List ℕ) → ℕ → List ℕ
name_at names n = unwrap_or (slice_get names n) []

-- The name `n` is CURLINE or one of the names `ps`.
abbrev pub is_predefined : Predefined → Reading → ℕ → Bool
is_predefined ps st n = is_some (predefined_value (with_current_line ps 0) (name_at st.names n))

-- The name `n` is an EQU name.
abbrev pub is_equate : Reading → ℕ → Bool
is_equate st n = is_some (equate_lines st.equates n)

-- The name `n` is a label of a line that was read.
abbrev pub is_label : Reading → ℕ → Bool
is_label st n = list_any (λ l. list_any (λ m. m == n) l.labels) st.lines

-- ---- The number of lines and tokens

-- The step that counts one more line, of at most `limit`.
abbrev pub line_read : Step
line_read st = elim (nat_le limit st.lines_read) [ true ↦ Err (problem_at None TooLong) | false ↦ Ok (record st { lines_read = st.lines_read + 1 }) ]

-- The step that counts the tokens `ts`. The count is at most `limit`.
abbrev pub tokens_counted : List Token → Step
tokens_counted ts st = elim (nat_lt limit (st.tokens_read + length ts)) [ true ↦ Err (problem_at None TooLong) | false ↦ Ok (record st { tokens_read = st.tokens_read + length ts }) ]

-- The bytes before the first `;`, or all bytes if there is none.
abbrev pub before_comment : List ℕ → List ℕ
before_comment [] = []
before_comment (b ∷ bs) = elim (b == semicolon) [ true ↦ [] | false ↦ b ∷ before_comment bs ]

-- Tokens, and everything read including them.
abbrev pub WithTokens : Type 0
WithTokens = List Token × Reading

-- The tokens of `row` from the offset `at` on, up to a comment, and everything read including them. There may be as
-- many tokens as the limit leaves after `st`.
abbrev pub row_tokens : SourceRow → ℕ → Reading → Result WithTokens TextTokenProblem
row_tokens row at st =
    tokens st.loops row.number (row.at + at) (limit - st.tokens_read) st.names (before_comment (drop at row.bytes)) >>= λ s.
    Ok (s.tokens, record st { names = s.names; tokens_read = st.tokens_read + length s.tokens })

-- ---- FOR and EQU lines

-- The tokens of `ts` before the word at the offset `at` in the source.
abbrev pub tokens_before : ℕ → List Token → List Token
tokens_before at ts = filter (λ t. nat_lt t.from at) ts

-- The tokens of `ts` after the word at the offset `at` in the source.
abbrev pub tokens_after : ℕ → List Token → List Token
tokens_after at ts = filter (λ t. nat_lt at t.from) ts

abbrev pub is_colon : TokenKind → Bool
is_colon (token.Sign Colon) = true
is_colon _ = false

-- The error of a token that is not allowed in its place.
abbrev pub misplaced : Token → TextTokenProblem
misplaced t = problem_of t BadToken

-- The name `n`, if no token follows it.
abbrev pub name_alone : ℕ → List Token → Result (Option ℕ) TextTokenProblem
name_alone n [] = Ok (Some n)
name_alone n (t ∷ ts) = Err (misplaced t)

-- The name `n`, if at most a colon follows it.
abbrev pub name_with_colon : ℕ → List Token → Result (Option ℕ) TextTokenProblem
name_with_colon n [] = Ok (Some n)
name_with_colon n (t ∷ ts) = elim (is_colon t.kind) [ true ↦ name_alone n ts | false ↦ Err (misplaced t) ]

-- The name before FOR or EQU, if there is one. A colon may follow the name. Any other token is an error.
abbrev pub name_in_front : List Token → Result (Option ℕ) TextTokenProblem
name_in_front [] = Ok None
name_in_front (t ∷ ts) = elim t.kind [ Name n ↦ name_with_colon n ts | _ ↦ Err (misplaced t) ]

-- The EQU names, with the line `ts` added to the definition of the last one.
abbrev pub with_line : List Equate → List Token → List Equate
with_line [] ts = []
with_line (e ∷ []) ts = record { name = e.name; lines = e.lines ++ ts ∷ [] } ∷ []
with_line (e ∷ f ∷ es) ts = e ∷ with_line (f ∷ es) ts

-- The step that defines the given name as the tokens `ts` or, without a name, adds the line `ts` to the last
-- definition. An error has the bytes `span`.
abbrev pub equated : Predefined → Option Span → List Token → Option ℕ → Step
equated ps span ts None st = elim st.equate_grows [ true ↦ Ok (record st { equates = with_line st.equates ts }) | false ↦ Err (problem_at span BadToken) ]
equated ps span ts (Some n) st =
    elim (is_equate st n || is_label st n || is_predefined ps st n) [
      | true ↦ Err (problem_at span Duplicate)
      | false ↦ Ok (record st { equates = st.equates ++ record { name = n; lines = ts ∷ [] } ∷ []; equate_grows = true })
    ]

-- The step that reads an EQU line with the tokens `ts`, whose word EQU is at the offset `at` in the source. An error of
-- the definition has the first token, which is the name or, without a name, the word EQU.
abbrev pub equ_line : Predefined → ℕ → List Token → Step
equ_line ps at ts st = name_in_front (tokens_before at ts) >>= λ name. equated ps (first_span ts) (tokens_after at ts) name st

-- ---- Ordinary lines

-- The parts of a line: its labels, the tokens of the labels with their colons, the operation, the bytes of the
-- operation or else of the last token before `rest`, and the remaining tokens.
pub record Parts : Type 0 where
  pub labels : List ℕ
  pub label_tokens : List Token
  pub operation : Option ℕ
  pub operation_span : Option Span
  pub rest : List Token

-- The words that cannot be labels, in lower case: the opcodes, CMP, ORG, END, EQU, FOR and ROF, and LDP, STP and PIN of
-- P-space.
abbrev pub operations : List (List ℕ)
operations =
    codes "dat" ∷ codes "mov" ∷ codes "add" ∷ codes "sub" ∷ codes "mul" ∷ codes "div" ∷ codes "mod" ∷ codes "jmp" ∷ codes "jmz" ∷ codes "jmn" ∷ codes "djn" ∷ codes "seq" ∷ codes "sne" ∷ codes "slt" ∷ codes "spl" ∷ codes "nop" ∷ codes "cmp" ∷ codes "org" ∷ codes "end" ∷ codes "equ" ∷ codes "for" ∷ codes "rof" ∷ codes "ldp" ∷ codes "stp" ∷ codes "pin" ∷ []

-- The name `n` is an EQU name or, ignoring case, one of the `operations`.
abbrev pub is_operation : Reading → ℕ → Bool
is_operation st n = is_equate st n || list_any (str_eq_ignore_ascii_case (name_at st.names n)) operations

-- The name `n` may be a label: it is not predefined and not yet a label, neither on another line nor among `labels` on this
-- line.
abbrev pub may_label : Predefined → Reading → List ℕ → ℕ → Bool
may_label ps st labels n = not (is_label st n || is_predefined ps st n || list_any (λ m. m == n) labels)

-- The colon at the start of the tokens after a label, if there is one, and the remaining tokens.
abbrev pub split_colon : List Token → List Token × List Token
split_colon [] = ([], [])
split_colon (t ∷ ts) = elim t.kind [ token.Sign s ↦ elim s [ Colon ↦ (t ∷ [], ts) | _ ↦ ([], t ∷ ts) ] | _ ↦ ([], t ∷ ts) ]

-- The parts of a line that has the labels `labels`, with the tokens `before`, and no operation before the tokens `ts`.
abbrev pub without_operation : List ℕ → List Token → List Token → Parts
without_operation labels before ts =
    record { labels = labels; label_tokens = before; operation = None; operation_span = last_span None before; rest = ts }

-- The parts of a line whose first labels are `labels`, with the tokens `before`. At most `k` labels more are read from
-- `ts`.
abbrev pub parts_within : Predefined → Reading → ℕ → List ℕ → List Token → List Token → Result Parts TextTokenProblem
parts_within ps st zero labels before ts = Ok (without_operation labels before ts)
parts_within ps st (suc k) labels before [] = Ok (without_operation labels before [])
parts_within ps st (suc k) labels before (t ∷ ts) =
    elim t.kind [
      | Name n ↦ elim (is_operation st n) [
        | true ↦ Ok (record { labels = labels; label_tokens = before; operation = Some n; operation_span = Some (span_of t); rest = ts })
        | false ↦ elim (may_label ps st labels n) [
          | true ↦ parts_within ps st k (labels ++ n ∷ []) (before ++ t ∷ (split_colon ts).0) (split_colon ts).1
          | false ↦ Err (problem_of t Duplicate)
        ]
      ]
      | _ ↦ Ok (without_operation labels before (t ∷ ts))
    ]

-- The parts of a line with the tokens `ts`.
abbrev pub parts_of : Predefined → Reading → List Token → Result Parts TextTokenProblem
parts_of ps st ts = parts_within ps st (length ts) [] [] ts

-- There is an operation, and its name among `names` is `word`, ignoring case.
abbrev pub is_keyword : List (List ℕ) → List ℕ → Option ℕ → Bool
is_keyword names word (Some n) = str_eq_ignore_ascii_case (name_at names n) word
is_keyword names word None = false

-- The operation is ORG, ignoring case.
abbrev pub is_org : List (List ℕ) → Option ℕ → Bool
is_org names operation = is_keyword names (codes "org") operation

-- The operation is END, ignoring case.
abbrev pub is_end : List (List ℕ) → Option ℕ → Bool
is_end names operation = is_keyword names (codes "end") operation

-- A line is an instruction if it has an operation or any token after its labels, and is not ORG or END.
abbrev pub is_instruction : List (List ℕ) → Option ℕ → List Token → Bool
is_instruction names operation rest = (is_some operation || nat_lt 0 (length rest)) && not (is_org names operation || is_end names operation)

-- `st` with the line `p` added, which has the number `number` and whose operation is not an EQU name.
abbrev pub line_added : ℕ → Parts → Reading → Reading
line_added number p st =
    record st {
      lines = st.lines ++ record { number = number; labels = p.labels; operation = p.operation; operation_span = p.operation_span; rest = p.rest } ∷ [];
      instructions = elim (is_instruction st.names p.operation p.rest) [ true ↦ st.instructions + 1 | false ↦ st.instructions ];
      equate_grows = false;
      ended = is_end st.names p.operation;
    }

-- The token `t` with the line number `number`.
abbrev pub token_on_line : ℕ → Token → Token
token_on_line number t = record t { line = number }

-- The tokens `ts` with the line number `number`. Tokens from EQU get the number of the line that uses the name.
abbrev pub on_line : ℕ → List Token → List Token
on_line number ts = map (token_on_line number) ts

-- The lines with `ts` put before the first one, or the line `ts` if there are no lines.
abbrev pub prepend_to_first : List Token → List (List Token) → List (List Token)
prepend_to_first ts [] = ts ∷ []
prepend_to_first ts (l ∷ ls) = (ts ++ l) ∷ ls

-- The lines with `ts` put after the last one, or the line `ts` if there are no lines.
abbrev pub append_to_last : List (List Token) → List Token → List (List Token)
append_to_last [] ts = ts ∷ []
append_to_last (l ∷ []) ts = (l ++ ts) ∷ []
append_to_last (l ∷ m ∷ ls) ts = l ∷ append_to_last (m ∷ ls) ts

-- The result of `rest` after `st`, or `st` itself if it has read an END.
abbrev pub unless_ended : {E : Type 0} → Reading → (Reading → Result Reading E) → Result Reading E
unless_ended st rest = elim st.ended [ true ↦ Ok st | false ↦ rest st ]

-- The step that counts and reads the given lines, which come from EQU, each by `ordinary`, up to an END.
abbrev pub each_line : (List Token → Step) → List (List Token) → Step
each_line ordinary [] st = Ok st
each_line ordinary (l ∷ ls) st = line_read st >>= tokens_counted l >>= ordinary l >>= λ a. unless_ended a (each_line ordinary ls)

-- The lines of the definition of the operation, if it is an EQU name.
abbrev pub operation_lines : Reading → Option ℕ → Option (List (List Token))
operation_lines st (Some n) = equate_lines st.equates n
operation_lines st None = None

-- The step that reads the line `p` with the number `number`. If its operation is an EQU name, the given lines of the
-- definition replace the name. `deeper` reads each of these lines; without `deeper` they are nested too deep.
abbrev pub parts_read : Option (List Token → Step) → ℕ → Parts → Option (List (List Token)) → Step
parts_read deeper number p None st = Ok (line_added number (record p { rest = on_line number p.rest }) st)
parts_read None number p (Some lines) st = Err (problem_at p.operation_span EquDepth)
parts_read (Some ordinary) number p (Some lines) st = each_line ordinary (append_to_last (prepend_to_first p.label_tokens lines) p.rest) st

-- The step that reads the ordinary line `ts` with the number `number`. `deeper` reads lines that replace an EQU name.
abbrev pub ordinary_with : Predefined → ℕ → Option (List Token → Step) → List Token → Step
ordinary_with ps number deeper ts st = parts_of ps st ts >>= λ p. parts_read deeper number p (operation_lines st p.operation) st

-- The step that reads an ordinary line with the number `number`, in which EQU names may nest to the given depth.
abbrev pub ordinary_line : Predefined → ℕ → ℕ → List Token → Step
ordinary_line ps number zero = ordinary_with ps number None
ordinary_line ps number (suc depth) = ordinary_with ps number (Some (ordinary_line ps number depth))

-- ---- Directives

-- The byte `b`, or `?` if `b` is not printable.
abbrev pub printable : ℕ → ℕ
printable b = elim (nat_le first_printed b && nat_le b last_printed) [ true ↦ b | false ↦ question_mark ]

-- The maximum number of bytes of a name or an author.
abbrev pub max_name_len : ℕ
max_name_len = 60

-- The value of `;name` or `;author`: its text without whitespace at both ends, with `?` for bytes that are not printable,
-- and at most 60 bytes.
abbrev pub directive_value : List ℕ → List ℕ
directive_value text = take max_name_len (map printable (reverse (without_blanks (reverse (without_blanks text)))))

-- The first text or, if it is empty, `old`.
abbrev pub unless_empty : List ℕ → List ℕ → List ℕ
unless_empty [] old = old
unless_empty (b ∷ bs) old = b ∷ bs

-- The step that reads an `;assert` line.
abbrev pub assert_line : SourceRow → Step
assert_line row st =
    row_tokens row (directive_text_at (codes "assert") row.bytes) st >>= λ r.
    Ok (record (r.1) { asserts = r.1.asserts ++ record { number = row.number; current_line = r.1.instructions; tokens = r.0 } ∷ [] })

-- The step that reads a comment line, which may have the directive `;name`, `;author` or `;assert`.
abbrev pub comment_line : SourceRow → Step
comment_line row st =
    elim (has_directive_word (codes "name") row.bytes) [
      | true ↦ Ok (record st { name = unless_empty (directive_value (directive_text (codes "name") row.bytes)) st.name })
      | false ↦ elim (has_directive_word (codes "author") row.bytes) [
        | true ↦ Ok (record st { author = unless_empty (directive_value (directive_text (codes "author") row.bytes)) st.author })
        | false ↦ elim (has_directive_word (codes "assert") row.bytes) [ true ↦ assert_line row st | false ↦ Ok st ]
      ]
    ]

-- ---- A line that is neither FOR nor ROF

-- The step that reads the given tokens of `row`, which has the given kind. A line without tokens adds nothing.
abbrev pub tokens_line : Predefined → LineKind → SourceRow → List Token → Step
tokens_line ps kind row [] st = Ok st
tokens_line ps (EquLine at) row (t ∷ ts) st = equ_line ps (row.at + at) (t ∷ ts) st
tokens_line ps kind row (t ∷ ts) st = ordinary_line ps row.number depth_limit (t ∷ ts) st

-- The step that reads a line that is neither FOR nor ROF.
abbrev pub plain_line : Predefined → SourceRow → Step
plain_line ps row st =
    line_read st >>= λ a. elim (is_comment row.bytes) [
      | true ↦ comment_line row a
      | false ↦ row_tokens row 0 a >>= λ r. tokens_line ps (line_kind row.bytes) row r.0 r.1
    ]
