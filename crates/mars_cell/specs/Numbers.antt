-- How numbers are read, and how they become numbers below the size of a core.
use Rattle.std.specs.Prelude.{ℕ, ℤ, pos, ◌-ℤ◌, neg_ℤ, Bool, true, false, ◌&&◌, ◌==◌, ◌/◌, nat_lt, nat_le, List, [], ◌∷◌, length, Option, None, Some, option_map, if◌then◌else◌}
use Rattle.std.specs.Char.{is_ascii_digit}
use Rattle.std.specs.Int.{int_rem_euclid}
use Rattle.std.specs.Int.RustNames.{unsigned_abs}
use Rattle.std.specs.List.{list_all}
use Rattle.std.specs.Str.Parse.{digits_value}

-- Whether the first byte is a minus sign, and the bytes after the sign, or all bytes if there is no sign.
unfoldable pub split_sign : List ℕ → Bool × List ℕ
split_sign [] = (false, [])
split_sign (b ∷ bs) = if b == 45 then (true, bs) else if b == 43 then (false, bs) else (false, b ∷ bs)

-- The value of `word`, if it is 1 to 18 digits.
unfoldable pub parse_digits : List ℕ → Option ℕ
parse_digits word =
    if nat_lt 0 (length word) && (nat_le (length word) 18 && list_all is_ascii_digit word) then Some (digits_value 10 word) else None

-- The integer with the magnitude `n`, negative if `is_negative`.
abbrev pub signed : Bool → ℕ → ℤ
signed is_negative n = if is_negative then neg_ℤ (pos n) else pos n

-- The value of `word`, if it is 1 to 18 digits, which a sign may precede.
unfoldable pub parse_number : List ℕ → Option ℤ
parse_number word = let (is_negative, digits) = split_sign word in option_map (signed is_negative) (parse_digits digits)

-- The number from 0 to `m - 1` that differs from the integer `z` by a multiple of `m`.
abbrev pub residue : ℕ → ℤ → ℕ
residue m z = unsigned_abs (int_rem_euclid z (pos m))

-- The integer nearest to 0 that differs from `z` by a multiple of `m`; of two equally near, the positive one.
unfoldable pub nearest : ℕ → ℤ → ℤ
nearest m z = if nat_le (residue m z) (m / 2) then pos (residue m z) else pos (residue m z) -ℤ pos m

-- The number in a core of `m` cells with the value that `z` has in the core of `written` cells for which it was
-- written.
abbrev pub by_value : ℕ → ℕ → ℤ → ℕ
by_value written m z = residue m (nearest written z)
