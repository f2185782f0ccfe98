-- Names for the bytes that have a meaning in a source.
use Rattle.std.specs.Prelude.{ℕ}

-- LF ends a line.
abbrev pub line_feed : ℕ
line_feed = 10

-- `;` starts a comment.
abbrev pub semicolon : ℕ
semicolon = 59

-- `&` starts a join.
abbrev pub ampersand : ℕ
ampersand = 38

-- `:` may follow a label, the counter of a loop or an EQU name.
abbrev pub colon : ℕ
colon = 58

-- `_` counts as a letter.
abbrev pub underscore : ℕ
underscore = 95

-- The space is the first printable byte of ASCII.
abbrev pub first_printed : ℕ
first_printed = 32

-- `~` is the last printable byte of ASCII.
abbrev pub last_printed : ℕ
last_printed = 126

-- `?` replaces a byte that is not printable.
abbrev pub question_mark : ℕ
question_mark = 63
