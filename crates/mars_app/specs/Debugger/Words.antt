-- The words of a line.
use Rattle.std.specs.Prelude.{ℕ, Bool, not, List, length, take, drop, Option, option_map, unwrap_or}
use Rattle.std.specs.List.{position}
use Rattle.mars_cell.specs.Numbers.{parse_digits}
use Rattle.mars_cell.specs.Parts.{is_blank}

-- The index of the first byte for which `p` holds, or the length of the line.
abbrev pub index_of : (ℕ → Bool) → List ℕ → ℕ
index_of p l = unwrap_or (position p l) (length l)

-- The line from its first word on.
abbrev pub from_word : List ℕ → List ℕ
from_word l = drop (index_of (λ b. not (is_blank b)) l) l

-- The first word of a line; empty if there is no word.
unfoldable pub first_word : List ℕ → List ℕ
first_word l = take (index_of is_blank (from_word l)) (from_word l)

-- What follows the first word of a line; empty if there is no word.
unfoldable pub after_word : List ℕ → List ℕ
after_word l = drop (index_of is_blank (from_word l)) (from_word l)

-- The number that is the first word of a line, and what follows this word; None unless the word is 1 to 18 digits.
unfoldable pub number_at : List ℕ → Option (ℕ × List ℕ)
number_at l = option_map (λ n. (n, after_word l)) (parse_digits (first_word l))
