-- The header of a load file: what it states before its statements.
use Rattle.std.specs.Prelude.{ℕ, Bool, false, nat_eq, nat_le, ◌&&◌, List, [], ◌∷◌, length, take, drop, slice_get, Option, None, Some, ok_or, option_and_then, Result, Ok, Err, if◌then◌else◌, codes, bytes_eq}
use Rattle.std.specs.Char.{is_ascii_digit}
use Rattle.std.specs.List.{list_all, starts_with}
use Rattle.mars_cell.specs.declared.fault.LoadFault.{LoadFault}
use Rattle.mars_cell.specs.declared.fault.LoadFault.TheVariants as fault
use Rattle.mars_cell.specs.Limits.{max_core_size, max_name_len}
use Rattle.mars_cell.specs.Numbers.{parse_digits}
use Rattle.mars_cell.specs.ParameterFaults.{is_within}

infixl 10 ◌>>=◌
-- The result of `g` on a successful result, or the first error.
abbrev pub ◌>>=◌ : {A B : Type 0} → Result A LoadFault → (A → Result B LoadFault) → Result B LoadFault
(Err f) >>= g = Err f
(Ok x) >>= g = g x

-- The header: the size of the core that the file was written for, the warrior's name and the author's name.
pub record HeaderValue : Type 0 where
  pub written : ℕ
  pub name : List ℕ
  pub author : List ℕ

-- The header with which a file of version 1 is read. Such a file has no header; it counts as written for the core of
-- `m` cells that reads it.
abbrev pub no_header : ℕ → HeaderValue
no_header m = record { written = m; name = codes "Unknown"; author = codes "Anonymous" }

-- The bytes after `word`, if `bytes` begins with `word`.
abbrev pub after_prefix : List ℕ → List ℕ → Option (List ℕ)
after_prefix word bytes = if bytes_eq (take (length word) bytes) word then Some (drop (length word) bytes) else None

-- The first byte is a digit.
abbrev pub begins_digit : List ℕ → Bool
begins_digit [] = false
begins_digit (b ∷ bs) = is_ascii_digit b

-- A load file states its version if it begins with `;load ` and a digit. Any other file is of version 1.
unfoldable pub has_version : List ℕ → Bool
has_version bytes = elim (after_prefix (codes ";load ") bytes) [ None ↦ false | Some rest ↦ begins_digit rest ]

-- The core size that `digits` state: a number from 1 to the maximum that does not begin with 0.
unfoldable pub size_of : List ℕ → Option ℕ
size_of digits =
    if starts_with nat_eq digits (codes "0") then None else option_and_then (λ n. if is_within 1 max_core_size n then Some n else None) (parse_digits digits)

-- `text` as a name, if it has at most 60 bytes, each a printable ASCII character.
unfoldable pub name_of : List ℕ → Option (List ℕ)
name_of text = if nat_le (length text) max_name_len && list_all (is_within 32 126) text then Some text else None

-- The core size in `line`, the first line, which is `;load 2 ` and the size.
abbrev pub size_in : List ℕ → Option ℕ
size_in line = option_and_then size_of (after_prefix (codes ";load 2 ") line)

-- The name in `line`, the second or third line, which is `word` and the name.
abbrev pub name_in : List ℕ → List ℕ → Option (List ℕ)
name_in word line = option_and_then name_of (after_prefix word line)

-- The header of a file of version 2, which is the first three of its lines `lines`, or the first error.
unfoldable pub header_of : List (List ℕ) → Result HeaderValue LoadFault
header_of lines = do
  written ← ok_or (option_and_then size_in (slice_get lines 0)) fault.Version
  name ← ok_or (option_and_then (name_in (codes ";name ")) (slice_get lines 1)) (fault.Syntax 2)
  author ← ok_or (option_and_then (name_in (codes ";author ")) (slice_get lines 2)) (fault.Syntax 3)
  Ok (record { written = written; name = name; author = author })
