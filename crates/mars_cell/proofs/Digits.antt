-- Bounds of the value of at most 18 digits, one digit at a time.
use Rattle.std.proofs.Common.{◌≡◌, ℕ, ◌+◌, ◌-◌, ◌*◌, ◌^◌, ◌<◌, ◌≤◌, List, length, get_or, true, arith, add-one}
use Rattle.std.proofs.Math.Nat.{pow-suc, pow-le-pow_right}
use Rattle.std.proofs.lemmas.List.Sums.{AllPass-from_list_all}
use Rattle.std.proofs.lemmas.Str.{digit_value_digit}
use Rattle.std.specs.Char.{digit_value, is_ascii_digit}
use Rattle.std.specs.Int.{IsInRange}
use Rattle.std.specs.List.{list_all}

-- A value of `i` digits, extended by one digit, has `i + 1` digits.
pub digit_below : (v i d : ℕ) → v < 10 ^ i → d ≤ 9 → v * 10 + d < 10 ^ (i + 1)
digit_below v i d below small = rw (add-one, pow-suc 10 i) (omega arith)

pub digit_fits : (v i d : ℕ) → v < 10 ^ i → i < 18 → d ≤ 9 → v * 10 + d < 2 ^ 64
digit_fits v i d below few small =
    let next = digit_below v i d below small in
    let most : 10 ^ (i + 1) ≤ 10 ^ 18 = let positive : 0 < 10 = omega arith in let few' : i + 1 ≤ 18 = omega arith in pow-le-pow_right positive few' in
    omega (arith, next, most)

pub few_below : (v i : ℕ) → v < 10 ^ i → i ≤ 18 → v < 10 ^ 18
few_below v i below few =
    let most : 10 ^ i ≤ 10 ^ 18 = let positive : 0 < 10 = omega arith in pow-le-pow_right positive few in
    omega (arith, below, most)

digit_range : (b : ℕ) → is_ascii_digit b ≡ true → IsInRange 48 57 b
digit_range b e = (grind arith, grind arith)

in_digits : (ds : List ℕ) (i : ℕ) → list_all is_ascii_digit ds ≡ true → i < length ds → IsInRange 48 57 (get_or ds i 0)
in_digits ds i all inside = digit_range (get_or ds i 0) (AllPass-from_list_all is_ascii_digit ds all i 0 inside)

pub digit_least : (ds : List ℕ) (i : ℕ) → list_all is_ascii_digit ds ≡ true → i < length ds → 48 ≤ get_or ds i 0
digit_least ds i all inside = (in_digits ds i all inside).0

pub each_digit : (ds : List ℕ) (i : ℕ) → list_all is_ascii_digit ds ≡ true → i < length ds → get_or ds i 0 - 48 ≤ 9
each_digit ds i all inside = let range = in_digits ds i all inside in omega (arith, range)

pub digit_value_at : (ds : List ℕ) (i : ℕ) → list_all is_ascii_digit ds ≡ true → i < length ds → digit_value (get_or ds i 0) ≡ get_or ds i 0 - 48
digit_value_at ds i all inside = let range = in_digits ds i all inside in let same = digit_value_digit (get_or ds i 0) range in omega (arith, same)
