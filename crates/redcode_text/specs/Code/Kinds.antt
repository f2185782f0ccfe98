-- The kinds of lines as the code represents them.
use Rattle.std.specs.Prelude.{◌≡◌, ℕ, ◌≤◌, List, length}
use Rattle.redcode_text.specs.declared.source.row.LineKind as code
use Rattle.redcode_text.specs.declared.source.row.LineKind.TheVariants as line
use Rattle.redcode_text.specs.Source.{LineKind, RofLine, ForLine, EquLine, OtherLine, line_kind}

abbrev pub kind_of : code.LineKind → LineKind
kind_of line.Rof = RofLine
kind_of (line.For at) = ForLine at
kind_of (line.Equ at) = EquLine at
kind_of line.Other = OtherLine

-- The offset of the word FOR or EQU in a line, or 0 for other lines.
abbrev pub word_place : code.LineKind → ℕ
word_place (line.For at) = at
word_place (line.Equ at) = at
word_place kind = 0

-- `kind` is the kind of the line `bytes`, and its offset is at most the length of the line.
pub record IsKind (kind : code.LineKind) (bytes : List ℕ) : Type 0 where
  pub is : kind_of kind ≡ line_kind bytes
  pub inside : word_place kind ≤ length bytes
