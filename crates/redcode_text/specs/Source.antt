-- The lines of a source, with their words, kinds and directives, and the tree of its loops.
use Rattle.std.specs.Prelude.{ℕ, ◌+◌, List, [], ◌∷◌, length, drop, take, Bool, true, false, ◌&&◌, Option, Some, None, ◌==◌, codes, nat_eq}
use Rattle.std.specs.List.{starts_with, list_any, onto_first, prefix_len}
use Rattle.std.specs.Str.{str_eq_ignore_ascii_case, str_to_ascii_lowercase}
use Rattle.redcode_text.specs.Bytes.{colon, line_feed, semicolon}
use Rattle.redcode_text.specs.declared.token.Span.{Span}
use Rattle.redcode_text.specs.Tokens.{is_blank, word_len}

-- ---- Lines

-- A line of the source: its number, from 1, the offset of its first byte in the source, and its bytes.
pub record SourceRow : Type 0 where
  pub number : ℕ
  pub at : ℕ
  pub bytes : List ℕ

-- The lines of a source, without the LF that ends each line. The last line may lack its LF.
abbrev pub lines_of : List ℕ → List (List ℕ)
lines_of [] = []
lines_of (b ∷ bs) = elim (b == line_feed) [ true ↦ [] ∷ lines_of bs | false ↦ onto_first b (lines_of bs) ]

-- The rows of lines, the first of which has the number `number` and starts at the offset `at`. Each LF takes one byte.
abbrev pub rows_from : ℕ → ℕ → List (List ℕ) → List SourceRow
rows_from number at [] = []
rows_from number at (bytes ∷ rest) = record { number = number; at = at; bytes = bytes } ∷ rows_from (number + 1) (at + length bytes + 1) rest

-- The lines of a source with their numbers and offsets.
abbrev pub rows_of : List ℕ → List SourceRow
rows_of source = rows_from 1 0 (lines_of source)

-- ---- Words of a line

-- The number of whitespace bytes at the start of `bytes`.
abbrev pub blank_len : List ℕ → ℕ
blank_len bytes = prefix_len is_blank bytes

-- The offset in `bytes` after the whitespace, if there is any, at the offset `at`.
abbrev pub past_blanks : List ℕ → ℕ → ℕ
past_blanks bytes at = at + blank_len (drop at bytes)

-- The offset in `bytes` after the word, if there is one, at the offset `at`.
abbrev pub past_word : List ℕ → ℕ → ℕ
past_word bytes at = at + word_len (drop at bytes)

-- The length of the colon at the start: 1, or 0 if there is none.
abbrev pub colon_len : List ℕ → ℕ
colon_len [] = 0
colon_len (b ∷ bs) = elim (b == colon) [ true ↦ 1 | false ↦ 0 ]

-- The offset in `bytes` after a colon at the offset `at`, or `at` if there is none.
abbrev pub past_colon : List ℕ → ℕ → ℕ
past_colon bytes at = at + colon_len (drop at bytes)

-- The offset of the first word, which may be empty, of the line `bytes`.
abbrev pub first_word_at : List ℕ → ℕ
first_word_at bytes = past_blanks bytes 0

-- The offset of the second word, which may be empty, of the line `bytes`. A colon may separate the two words.
abbrev pub second_word_at : List ℕ → ℕ
second_word_at bytes = past_blanks bytes (past_colon bytes (past_blanks bytes (past_word bytes (first_word_at bytes))))

-- The word at the offset `at` of `bytes` is `word`, ignoring case.
abbrev pub has_word : List ℕ → List ℕ → ℕ → Bool
has_word word bytes at = str_eq_ignore_ascii_case (take (word_len (drop at bytes)) (drop at bytes)) word

-- The offset of `word`, if it is the first or the second word of the line `bytes`.
abbrev pub leading_word_at : List ℕ → List ℕ → Option ℕ
leading_word_at word bytes =
    elim (has_word word bytes (first_word_at bytes)) [
      | true ↦ Some (first_word_at bytes)
      | false ↦ elim (has_word word bytes (second_word_at bytes)) [ true ↦ Some (second_word_at bytes) | false ↦ None ]
    ]

-- ---- Kinds of lines

-- The kind of a line, with the offset of the word FOR or EQU.
pub data LineKind : Type 0 where
  RofLine : LineKind
  ForLine : ℕ → LineKind
  EquLine : ℕ → LineKind
  OtherLine : LineKind

-- An EQU line, if the offset of its word EQU is given, or else another line.
abbrev pub equ_or_other : Option ℕ → LineKind
equ_or_other (Some at) = EquLine at
equ_or_other None = OtherLine

-- A FOR line, if the offset of its word FOR is given, or else the kind `other`.
abbrev pub for_or : LineKind → Option ℕ → LineKind
for_or other (Some at) = ForLine at
for_or other None = other

-- The kind of the line `bytes`. ROF must be its first word; FOR has precedence over EQU.
abbrev pub line_kind : List ℕ → LineKind
line_kind bytes =
    elim (has_word (codes "rof") bytes (first_word_at bytes)) [
      | true ↦ RofLine
      | false ↦ for_or (equ_or_other (leading_word_at (codes "equ") bytes)) (leading_word_at (codes "for") bytes)
    ]

-- The bytes of the word at the offset `at` of `row`.
abbrev pub word_span : SourceRow → ℕ → Option Span
word_span row at = Some (record { from = row.at + at; to = row.at + past_word row.bytes at })

-- The bytes of the word FOR if `row` is a FOR line, or else of its first word, which is the word ROF of a ROF line.
abbrev pub loop_word : SourceRow → Option Span
loop_word row = elim (line_kind row.bytes) [ ForLine at ↦ word_span row at | _ ↦ word_span row (first_word_at row.bytes) ]

-- ---- Directives

-- The line `bytes` without the whitespace at its start.
abbrev pub without_blanks : List ℕ → List ℕ
without_blanks bytes = drop (blank_len bytes) bytes

-- The line `bytes` has only a comment, which whitespace may precede.
abbrev pub is_comment : List ℕ → Bool
is_comment bytes = starts_with nat_eq (without_blanks bytes) (semicolon ∷ [])

-- The line `bytes` is a comment that begins with `word`, ignoring case. `word` is given in lower case.
abbrev pub has_directive : List ℕ → List ℕ → Bool
has_directive word bytes = starts_with nat_eq (str_to_ascii_lowercase (without_blanks bytes)) (semicolon ∷ word)

-- The offset in the line `bytes` after the directive that consists of `;` and `word`.
abbrev pub directive_text_at : List ℕ → List ℕ → ℕ
directive_text_at word bytes = blank_len bytes + length word + 1

-- The text in the line `bytes` after the directive that consists of `;` and `word`.
abbrev pub directive_text : List ℕ → List ℕ → List ℕ
directive_text word bytes = drop (directive_text_at word bytes) bytes

-- The text is empty or begins with whitespace, so that it does not continue a word before it.
abbrev pub ends_word : List ℕ → Bool
ends_word [] = true
ends_word (b ∷ bs) = is_blank b

-- The line `bytes` is a comment that begins with `word`, ignoring case, and then has whitespace or ends.
abbrev pub has_directive_word : List ℕ → List ℕ → Bool
has_directive_word word bytes = has_directive word bytes && ends_word (directive_text word bytes)

-- The row is a comment that begins with `;redcode`, ignoring case.
abbrev pub begins_redcode : SourceRow → Bool
begins_redcode row = has_directive (codes "redcode") row.bytes

-- The rows from the first `;redcode` on.
abbrev pub from_redcode : List SourceRow → List SourceRow
from_redcode [] = []
from_redcode (row ∷ rows) = elim (begins_redcode row) [ true ↦ row ∷ rows | false ↦ from_redcode rows ]

-- The rows that are read: from the first `;redcode` on, or all rows if there is no `;redcode`.
abbrev pub read_rows : List SourceRow → List SourceRow
read_rows rows = elim (list_any begins_redcode rows) [ true ↦ from_redcode rows | false ↦ rows ]

-- ---- The tree

-- The items of a source or of a loop's body, in order.
pub data Items : Type 0 where
  Nothing : Items
  Plain : SourceRow → Items → Items
  Loop : SourceRow → Items → SourceRow → Items → Items
  UnclosedFor : SourceRow → Items → Items
  LoneRof : SourceRow → Items → Items

-- The pairing of the rows from some row to the end of the source. `here` has the items from that row to the end of its
-- body. `waiting` has each ROF whose FOR is not among these rows, since it is before them or there is none, the nearest
-- first, with the items after the ROF.
pub record Pairing : Type 0 where
  pub here : Items
  pub waiting : List (SourceRow × Items)

-- The FOR `head` opens a loop with the body `here`, up to the nearest waiting ROF. Without a ROF, `head` is unclosed.
abbrev pub opened : SourceRow → Items → List (SourceRow × Items) → Pairing
opened head here [] = record { here = UnclosedFor head here; waiting = [] }
opened head here (rof ∷ waiting) = record { here = Loop head here rof.0 rof.1; waiting = waiting }

-- The pairing `p` with the row `row` before it, which has the given kind.
abbrev pub paired_with : LineKind → SourceRow → Pairing → Pairing
paired_with (ForLine at) row p = opened row p.here p.waiting
paired_with RofLine row p = record { here = Nothing; waiting = (row, p.here) ∷ p.waiting }
paired_with (EquLine at) row p = record { here = Plain row p.here; waiting = p.waiting }
paired_with OtherLine row p = record { here = Plain row p.here; waiting = p.waiting }

-- The pairing of the rows.
abbrev pub paired : List SourceRow → Pairing
paired [] = record { here = Nothing; waiting = [] }
paired (row ∷ rows) = paired_with (line_kind row.bytes) row (paired rows)

-- The items, followed by `rof`, a ROF without a FOR, at which reading ends.
abbrev pub then_lone : SourceRow → Items → Items
then_lone rof Nothing = LoneRof rof Nothing
then_lone rof (Plain row rest) = Plain row (then_lone rof rest)
then_lone rof (Loop head body end rest) = Loop head body end (then_lone rof rest)
then_lone rof (UnclosedFor head rest) = UnclosedFor head (then_lone rof rest)
then_lone rof (LoneRof row rest) = LoneRof row (then_lone rof rest)

-- The items `here`, followed by the first waiting ROF, if there is one.
abbrev pub with_lone : Items → List (SourceRow × Items) → Items
with_lone here [] = here
with_lone here (rof ∷ waiting) = then_lone rof.0 here

-- The tree of the rows `rows`.
abbrev pub tree_of_rows : List SourceRow → Items
tree_of_rows rows = with_lone (paired rows).here (paired rows).waiting

-- The tree of the rows of `source` that are read.
abbrev pub tree_of : List ℕ → Items
tree_of source = tree_of_rows (read_rows (rows_of source))
