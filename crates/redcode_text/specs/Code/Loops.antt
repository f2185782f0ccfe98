-- How the code reads the items of a source, one after another, and what holds for the rows that it reads.
use Rattle.std.specs.Prelude.{◌≡◌, ℕ, ◌+◌, ◌<◌, ◌≤◌, ◌^◌, List, length, get_or, Result, Ok, Err}
use Rattle.redcode_text.specs.Results.{◌>>=◌}
use Rattle.redcode_text.specs.declared.fault.TextFault.{TextFault}
use Rattle.redcode_text.specs.declared.source.row.SourceRow as code
use Rattle.redcode_text.specs.Expansion.{flat, head_line, rof_line, rounds}
use Rattle.redcode_text.specs.Lines.{Predefined, Reading, unless_ended}
use Rattle.redcode_text.specs.Outcomes.{FailsAt}
use Rattle.redcode_text.specs.Code.Rows.{row_of}
use Rattle.redcode_text.specs.Code.Pairs.{here_from}
use Rattle.redcode_text.specs.Source.{Items, Plain, SourceRow, ForLine, line_kind}
use Rattle.redcode_text.specs.Tokens.{at_line}

-- The step that reads one loop, up to its ROF.
abbrev pub one_loop : Predefined → SourceRow → Items → SourceRow → Reading → Result Reading TextFault
one_loop ps head body rof st =
    at_line head.number (head_line ps head st) >>= λ h.
    rounds (flat ps body) h.counter 1 h.count h.reading >>= λ a.
    unless_ended a (λ b. at_line rof.number (rof_line rof b))

-- The end of each row is an offset below 2^64.
abbrev pub RowsFit : List code.SourceRow → Type 0
RowsFit rows = (i : ℕ) (d : code.SourceRow) → i < length rows → (get_or rows i d).at + length (get_or rows i d).bytes.now < 2 ^ 64

-- The items were read from the row `at` on, up to the row `next` or to an error. `before` is everything read at the
-- start, and `after` everything read at the end.
abbrev pub ReadTo : Predefined → List code.SourceRow → ℕ → Reading → Reading → Result ℕ TextFault → Type 0
ReadTo ps rows at before after (Ok next) = (at < next) × (next ≤ length rows) × (flat ps (here_from rows at) before ≡ unless_ended after (flat ps (here_from rows next)))
ReadTo ps rows at before after (Err fault) = FailsAt fault.problem fault (flat ps (here_from rows at) before)

-- The row `at` is a FOR line, whose word FOR is at the offset `word_at`.
abbrev pub IsFor : List code.SourceRow → ℕ → ℕ → Type 0
IsFor rows at word_at = (d : code.SourceRow) → (ForLine word_at ≡ line_kind (get_or rows at d).bytes.now) × (word_at ≤ length (get_or rows at d).bytes.now)

-- The row `at` is neither a FOR nor a ROF line.
abbrev pub IsPlain : List code.SourceRow → ℕ → Type 0
IsPlain rows at = (d : code.SourceRow) → here_from rows at ≡ Plain (row_of (get_or rows at d)) (here_from rows (at + 1))
