-- The expansion of a source: the program that results from reading it.
use Rattle.std.specs.Prelude.{ℕ, zero, suc, ◌+◌, List, [], ◌∷◌, length, Bool, true, false, not, ℤ, pos, negsuc, Option, Some, None, Result, Ok, Err, nat_le, codes, option_map}
use Rattle.std.specs.List.{find}
use Rattle.redcode_text.specs.Results.{◌>>=◌}
use Rattle.redcode_text.specs.declared.token.Span.{Span}
use Rattle.redcode_text.specs.declared.token.Token.{Token}
use Rattle.redcode_text.specs.declared.token.TokenKind.{TokenKind}
use Rattle.redcode_text.specs.declared.token.TokenKind.TheVariants.{Name}
use Rattle.redcode_text.specs.declared.fault.ExprFault.{ExprFault}
use Rattle.redcode_text.specs.declared.fault.TextFault.{TextFault}
use Rattle.redcode_text.specs.declared.fault.TextProblem.{TextProblem}
use Rattle.redcode_text.specs.declared.fault.TextTokenProblem.{TextTokenProblem}
use Rattle.redcode_text.specs.declared.fault.TextProblem.TheVariants.{UnclosedFor, RofAlone, BadCount, LabelInCount, TooLong, Expression}
use Rattle.redcode_text.specs.Expression.{fault_span, kinds, value_of}
use Rattle.redcode_text.specs.Spans.{first_span, span_of}
use Rattle.redcode_text.specs.Tokens.{at_line, problem_at, without_line}
use Rattle.redcode_text.specs.Source.{SourceRow, Items, Plain, Loop, loop_word, tree_of}
use Rattle.redcode_text.specs.Source as source
use Rattle.redcode_text.specs.Equates.{Equate, substitution}
use Rattle.redcode_text.specs.Lines.{Reading, Line, Assert, Predefined, predefined_value, with_current_line, name_at, is_predefined, line_read, row_tokens, tokens_before, tokens_after, name_in_front, plain_line, unless_ended}

-- ---- The header of a loop

-- The token is a name that is not predefined.
abbrev pub is_undefined : Predefined → Reading → TokenKind → Bool
is_undefined ps st (Name n) = not (is_predefined ps st n)
is_undefined ps st _ = false

-- The bytes of the first name among the tokens `ts` that is not predefined, if there is one.
abbrev pub label_span : Predefined → Reading → List Token → Option Span
label_span ps st ts = option_map span_of (find (λ t. is_undefined ps st t.kind) ts)

-- The maximum number of iterations of a loop.
abbrev pub count_limit : ℕ
count_limit = 10000

-- The number of iterations for the value of a count, which must be from 0 to `count_limit`.
abbrev pub as_count : Result ℤ ExprFault → Result ℕ TextProblem
as_count (Ok (pos n)) = elim (nat_le n count_limit) [ true ↦ Ok n | false ↦ Err BadCount ]
as_count (Ok (negsuc n)) = Err BadCount
as_count (Err e) = Err (Expression e)

-- The value of the name `n` in a count, if it is predefined.
abbrev pub count_names : Predefined → Reading → ℕ → Option ℤ
count_names ps st n = predefined_value (with_current_line ps st.instructions) (name_at st.names n)

-- The bytes of the token at which the count `us` has an error: the token at which its expression has the error, or its
-- first token if its value is no count. A count without tokens has its error at the token `before`.
abbrev pub count_span : (ℕ → Option ℤ) → Option Span → List Token → TextProblem → Option Span
count_span names before us (Expression e) = fault_span names before us e
count_span names before us problem = first_span us

-- A count whose error gets its bytes from `span`.
abbrev pub counted : (TextProblem → Option Span) → Result ℕ TextProblem → Result ℕ TextTokenProblem
counted span (Ok n) = Ok n
counted span (Err e) = Err (problem_at (span e) e)

-- The number of iterations for the count `us`, whose EQU names are replaced and which follows the token `before`.
abbrev pub replaced_count : Predefined → Reading → Option Span → List Token → Result ℕ TextTokenProblem
replaced_count ps st before us =
    elim (label_span ps st us) [
      | Some span ↦ Err (problem_at (Some span) LabelInCount)
      | None ↦ counted (count_span (count_names ps st) before us) (as_count (value_of (count_names ps st) (kinds us)))
    ]

-- The number of iterations for the tokens `ts` after the word FOR, which has the bytes `before`.
abbrev pub count_of : Predefined → Reading → Option Span → List Token → Result ℕ TextTokenProblem
count_of ps st before ts = without_line (substitution st.equates ts) >>= replaced_count ps st before

-- The header of a loop: its counter, if it has one, its number of iterations, and everything read including the header.
pub record Head : Type 0 where
  pub counter : Option (List ℕ)
  pub count : ℕ
  pub reading : Reading

-- The counter with the index `n`, if the loop has one.
abbrev pub counter_name : Reading → Option ℕ → Option (List ℕ)
counter_name st (Some n) = Some (name_at st.names n)
counter_name st None = None

-- The maximum number of open loops.
abbrev pub loop_limit : ℕ
loop_limit = 32

-- `st`, if one more loop may be open, or else an error with the bytes `span`.
abbrev pub room_for_loop : Option Span → Reading → Result Reading TextTokenProblem
room_for_loop span st = elim (nat_le loop_limit (length st.loops)) [ true ↦ Err (problem_at span TooLong) | false ↦ Ok st ]

-- The offset in the source of the word FOR of the FOR line `row`.
abbrev pub for_word_at : SourceRow → ℕ
for_word_at row = elim (source.line_kind row.bytes) [ source.ForLine at ↦ row.at + at | _ ↦ row.at ]

-- The header of the loop whose FOR line is `row`.
abbrev pub head_line : Predefined → SourceRow → Reading → Result Head TextTokenProblem
head_line ps row st =
    line_read st >>= row_tokens row 0 >>= λ r.
    name_in_front (tokens_before (for_word_at row) r.0) >>= λ counter.
    room_for_loop (loop_word row) r.1 >>= λ _.
    count_of ps r.1 (loop_word row) (tokens_after (for_word_at row) r.0) >>= λ count.
    Ok (record { counter = counter_name r.1 counter; count = count; reading = record (r.1) { equate_grows = false } })

-- Everything read after the ROF line `row`, whose tokens are read but have no meaning.
abbrev pub rof_line : SourceRow → Reading → Result Reading TextTokenProblem
rof_line row st = line_read st >>= row_tokens row 0 >>= λ r. Ok (record (r.1) { equate_grows = false })

-- The error `problem` of `row`, a FOR without its ROF or a ROF without its FOR, unless there are too many lines.
abbrev pub unpaired_line : TextProblem → SourceRow → Reading → Result Reading TextTokenProblem
unpaired_line problem row st = line_read st >>= λ _. Err (problem_at (loop_word row) problem)

-- ---- The whole source

-- Everything read, with one more open loop in the iteration `round`.
abbrev pub in_round : Option (List ℕ) → ℕ → Reading → Reading
in_round counter round st = record st { loops = record { counter = counter; round = round } ∷ st.loops }

-- Everything read after as many iterations of `body` as given, numbered from `round`. The loop is open only in them.
abbrev pub rounds : (Reading → Result Reading TextFault) → Option (List ℕ) → ℕ → ℕ → Reading → Result Reading TextFault
rounds body counter round zero st = Ok st
rounds body counter round (suc n) st =
    body (in_round counter round st) >>= λ a. unless_ended (record a { loops = st.loops }) (rounds body counter (round + 1) n)

-- Everything read after the items, or their first error. Reading stops after an END.
abbrev pub flat : Predefined → Items → Reading → Result Reading TextFault
flat ps source.Nothing st = Ok st
flat ps (Plain row rest) st = at_line row.number (plain_line ps row st) >>= λ a. unless_ended a (flat ps rest)
flat ps (Loop head body rof rest) st =
    at_line head.number (head_line ps head st) >>= λ h.
    rounds (flat ps body) h.counter 1 h.count h.reading >>= λ a.
    unless_ended a (λ b. at_line rof.number (rof_line rof b) >>= flat ps rest)
flat ps (source.UnclosedFor row rest) st = at_line row.number (unpaired_line UnclosedFor row st)
flat ps (source.LoneRof row rest) st = at_line row.number (unpaired_line RofAlone row st)

-- The state before the first line of a source.
abbrev pub nothing_read : Reading
nothing_read =
    record {
      loops = [];
      names = [];
      equates = [];
      equate_grows = false;
      lines = [];
      instructions = 0;
      lines_read = 0;
      tokens_read = 0;
      name = codes "Unknown";
      author = codes "Anonymous";
      asserts = [];
      ended = false;
    }

-- The part of everything read that the assembler needs.
pub record ProgramValue : Type 0 where
  pub names : List (List ℕ)
  pub equates : List Equate
  pub lines : List Line
  pub name : List ℕ
  pub author : List ℕ
  pub asserts : List Assert

abbrev pub program_of : Reading → ProgramValue
program_of st = record { names = st.names; equates = st.equates; lines = st.lines; name = st.name; author = st.author; asserts = st.asserts }

-- The program of a source, or its first error.
unfoldable pub expansion : Predefined → List ℕ → Result ProgramValue TextFault
expansion ps source = flat ps (tree_of source) nothing_read >>= λ st. Ok (program_of st)
