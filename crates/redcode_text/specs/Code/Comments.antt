-- The meaning of a comment line, as the code represents it.
use Rattle.std.specs.Prelude.{ℕ, ◌+◌, ◌++◌, ◌&&◌, List, [], ◌∷◌, Option, Some, None, Result, Ok, codes, drop, length, map, nat_eq, reverse, take, if◌then◌else◌}
use Rattle.std.specs.List.{starts_with}
use Rattle.std.specs.Str.{str_to_ascii_lowercase}
use Rattle.redcode_text.specs.Results.{◌>>=◌}
use Rattle.redcode_text.specs.Bytes.{semicolon}
use Rattle.redcode_text.specs.declared.fault.TextTokenProblem.{TextTokenProblem}
use Rattle.redcode_text.specs.declared.source.directives.Comment.{Comment}
use Rattle.redcode_text.specs.declared.source.directives.Comment.TheVariants.{Name, Author, Assert, Other}
use Rattle.redcode_text.specs.Lines.{Reading, max_name_len, printable, row_tokens, unless_empty}
use Rattle.redcode_text.specs.Source.{SourceRow, blank_len, ends_word, without_blanks}

-- A text without the whitespace at both ends.
abbrev pub trimmed : List ℕ → List ℕ
trimmed text = reverse (without_blanks (reverse (without_blanks text)))

-- The value of `;name` or `;author`, from a text without whitespace at both ends.
abbrev pub printed_value : List ℕ → List ℕ
printed_value text = take max_name_len (map printable text)

-- `st` with the name from `text`, unless `text` is empty.
abbrev pub with_name_text : List ℕ → Reading → Reading
with_name_text text st = record st { name = unless_empty (printed_value text) st.name }

-- `st` with the author from `text`, unless `text` is empty.
abbrev pub with_author_text : List ℕ → Reading → Reading
with_author_text text st = record st { author = unless_empty (printed_value text) st.author }

-- The step that adds the assert of `row`, whose expression starts at the offset `at` of the row.
abbrev pub assert_at : SourceRow → ℕ → Reading → Result Reading TextTokenProblem
assert_at row at st =
    row_tokens row at st >>= λ r.
    Ok (record (r.1) { asserts = r.1.asserts ++ record { number = row.number; current_line = r.1.instructions; tokens = r.0 } ∷ [] })

-- The offset after `directive` in the line `bytes`, if the line begins with `directive` as a whole word, ignoring case
-- and after any whitespace. `directive` is in lower case and includes the `;`.
abbrev pub text_found : List ℕ → List ℕ → Option ℕ
text_found directive bytes =
    if starts_with nat_eq (str_to_ascii_lowercase (without_blanks bytes)) directive && ends_word (drop (blank_len bytes + length directive) bytes)
    then Some (blank_len bytes + length directive) else None

-- The meaning of a comment: a name or an author, without whitespace at both ends, or the offset of an assert's expression.
pub data Meaning : Type 0 where
  IsName : List ℕ → Meaning
  IsAuthor : List ℕ → Meaning
  IsAssert : ℕ → Meaning
  IsOther : Meaning

-- The meaning that the code found.
abbrev pub meaning_of : Comment → Meaning
meaning_of (Name text) = IsName text.now
meaning_of (Author text) = IsAuthor text.now
meaning_of (Assert at) = IsAssert at
meaning_of Other = IsOther

-- The offset of an assert's expression, or 0 if the comment is no assert.
abbrev pub assert_place : Comment → ℕ
assert_place (Assert at) = at
assert_place comment = 0

-- The meaning of a comment with `;assert` before the given offset, or else of a comment without a directive.
abbrev pub assert_or_other : Option ℕ → Meaning
assert_or_other (Some at) = IsAssert at
assert_or_other None = IsOther

-- The meaning of the comment `bytes` with `;author` before the given offset, or else the meaning `other`.
abbrev pub author_or : List ℕ → Meaning → Option ℕ → Meaning
author_or bytes other (Some at) = IsAuthor (trimmed (drop at bytes))
author_or bytes other None = other

-- The meaning of the comment `bytes` with `;name` before the given offset, or else the meaning `other`.
abbrev pub name_or : List ℕ → Meaning → Option ℕ → Meaning
name_or bytes other (Some at) = IsName (trimmed (drop at bytes))
name_or bytes other None = other

-- The meaning of the comment `bytes`, which does not begin with `;name`.
abbrev pub author_meaning : List ℕ → Meaning
author_meaning bytes = author_or bytes (assert_or_other (text_found (semicolon ∷ codes "assert") bytes)) (text_found (semicolon ∷ codes "author") bytes)

-- The meaning of the comment line `bytes`.
abbrev pub meaning : List ℕ → Meaning
meaning bytes = name_or bytes (author_meaning bytes) (text_found (semicolon ∷ codes "name") bytes)

-- The step that reads the comment line `row`, which has the given meaning.
abbrev pub after_comment : Meaning → SourceRow → Reading → Result Reading TextTokenProblem
after_comment (IsName text) row st = Ok (with_name_text text st)
after_comment (IsAuthor text) row st = Ok (with_author_text text st)
after_comment (IsAssert at) row st = assert_at row at st
after_comment IsOther row st = Ok st
