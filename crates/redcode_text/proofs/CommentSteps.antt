-- The effect of a comment line is given by its meaning, which the code finds.
use Rattle.std.proofs.Common.{◌≡◌, ℕ, ◌+◌, List, ◌∷◌, ◌&&◌, drop, Bool, true, false, cond, nat_eq, Some, None, Result, Ok, refl, ap, sym, ◌∙◌, arith}
use Rattle.std.specs.Prelude.{codes}
use Rattle.std.specs.List.{starts_with}
use Rattle.std.specs.Str.{str_to_ascii_lowercase}
use Rattle.redcode_text.specs.declared.fault.TextTokenProblem.{TextTokenProblem}
use Rattle.redcode_text.specs.Code.Comments.{Meaning, after_comment, assert_at, assert_or_other, author_meaning, author_or, meaning, name_or, text_found}
use Rattle.redcode_text.specs.Lines.{Reading, assert_line, comment_line, directive_value, unless_empty}
use Rattle.redcode_text.specs.Source.{SourceRow, blank_len, directive_text, directive_text_at, ends_word, has_directive_word, without_blanks}

-- The effect of a comment line that is neither `;name` nor `;author`.
abbrev no_author : SourceRow → Reading → Result Reading TextTokenProblem
no_author row st = elim (has_directive_word (codes "assert") row.bytes) [ true ↦ assert_line row st | false ↦ Ok st ]

-- The effect of a comment line that isn't `;name`.
abbrev no_name : SourceRow → Reading → Result Reading TextTokenProblem
no_name row st =
    elim (has_directive_word (codes "author") row.bytes) [
      | true ↦ Ok (record st { author = unless_empty (directive_value (directive_text (codes "author") row.bytes)) st.author })
      | false ↦ no_author row st
    ]

-- The line `bytes` is the directive `word`, whose text starts at the offset `at`.
abbrev begins : List ℕ → List ℕ → ℕ → Bool
begins word bytes at = starts_with nat_eq (str_to_ascii_lowercase (without_blanks bytes)) (59 ∷ word) && ends_word (drop at bytes)

module _ (row : SourceRow) (st : Reading) where
  abbrev name_else : ℕ → Bool → Result Reading TextTokenProblem
  name_else at t = elim t as (λ _. Result Reading TextTokenProblem) [ true ↦ Ok (record st { name = unless_empty (directive_value (drop at row.bytes)) st.name }) | false ↦ no_name row st ]

  abbrev author_else : ℕ → Bool → Result Reading TextTokenProblem
  author_else at t = elim t as (λ _. Result Reading TextTokenProblem) [ true ↦ Ok (record st { author = unless_empty (directive_value (drop at row.bytes)) st.author }) | false ↦ no_author row st ]

  abbrev assert_else : ℕ → Bool → Result Reading TextTokenProblem
  assert_else at t = elim t as (λ _. Result Reading TextTokenProblem) [ true ↦ assert_at row at st | false ↦ Ok st ]

  by-assert : (at : ℕ) (t : Bool) → assert_else at t ≡ after_comment (assert_or_other (cond t (Some at) None)) row st
  by-assert at true = refl
  by-assert at false = refl

  by-author : (at : ℕ) (t : Bool) (other : Meaning) → no_author row st ≡ after_comment other row st → author_else at t ≡ after_comment (author_or row.bytes other (cond t (Some at) None)) row st
  by-author at true other e = refl
  by-author at false other e = e

  by-name : (at : ℕ) (t : Bool) (other : Meaning) → no_name row st ≡ after_comment other row st → name_else at t ≡ after_comment (name_or row.bytes other (cond t (Some at) None)) row st
  by-name at true other e = refl
  by-name at false other e = e

  -- The effect of a comment line is given by its meaning.
  pub comment-meaning : comment_line row st ≡ after_comment (meaning row.bytes) row st
  comment-meaning =
      let name_place : directive_text_at (codes "name") row.bytes ≡ blank_len row.bytes + 5 = omega arith in
      let author_place : directive_text_at (codes "author") row.bytes ≡ blank_len row.bytes + 7 = omega arith in
      let assert_place : directive_text_at (codes "assert") row.bytes ≡ blank_len row.bytes + 7 = omega arith in
      let assert_is : no_author row st ≡ after_comment (assert_or_other (text_found (59 ∷ codes "assert") row.bytes)) row st =
      ap (λ m. assert_else m (begins (codes "assert") row.bytes m)) assert_place ∙ by-assert (blank_len row.bytes + 7) (begins (codes "assert") row.bytes (blank_len row.bytes + 7)) in
      let author_is : no_name row st ≡ after_comment (author_meaning row.bytes) row st =
      ap (λ m. author_else m (begins (codes "author") row.bytes m)) author_place ∙ by-author (blank_len row.bytes + 7) (begins (codes "author") row.bytes (blank_len row.bytes + 7)) _ assert_is in
      ap (λ m. name_else m (begins (codes "name") row.bytes m)) name_place ∙ by-name (blank_len row.bytes + 5) (begins (codes "name") row.bytes (blank_len row.bytes + 5)) _ author_is

-- The effect of a comment line is given by the meaning that the code found.
pub as-meant : (what : Meaning) (row : SourceRow) (st : Reading) → what ≡ meaning row.bytes → comment_line row st ≡ after_comment what row st
as-meant what row st e = comment-meaning row st ∙ ap (λ s. after_comment s row st) (sym e)
