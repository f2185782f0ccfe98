-- The parts of a line: words, numbers with their sign, and single bytes. Whitespace separates parts and belongs to none.
use Rattle.std.specs.Prelude.{ℕ, Bool, false, not, ◌&&◌, ◌||◌, ◌==◌, nat_lt, List, [], ◌∷◌, if◌then◌else◌}
use Rattle.std.specs.Char.{is_ascii_alphanumeric}

-- Whitespace within a line: every byte of at most 32, except for LF.
abbrev pub is_blank : ℕ → Bool
is_blank b = nat_lt b 33 && not (b == 10)

-- The byte `b` is a letter, a digit, `+` or `-`, so that a letter or digit directly after it belongs to the same part.
unfoldable pub joins : ℕ → Bool
joins b = is_ascii_alphanumeric b || (b == 43 || b == 45)

-- The first byte is a letter or a digit.
unfoldable pub begins_word : List ℕ → Bool
begins_word [] = false
begins_word (b ∷ bs) = is_ascii_alphanumeric b

-- The byte `b` put in front of the first part.
abbrev pub onto_first : ℕ → List (List ℕ) → List (List ℕ)
onto_first b [] = (b ∷ []) ∷ []
onto_first b (p ∷ ps) = (b ∷ p) ∷ ps

-- The parts of a line, in order.
unfoldable pub parts : List ℕ → List (List ℕ)
parts [] = []
parts (b ∷ bs) = if is_blank b then parts bs else if (joins b && begins_word bs) then onto_first b (parts bs) else (b ∷ []) ∷ parts bs
