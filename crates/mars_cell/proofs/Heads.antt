-- The header of a load file, line after line.
-- `read_header` cites `header_made` through `using`, without a file of answers. So if a must-fail edit moves a step of
-- `read_header`, the goal of a clause fails. For this, the lemma has all its variables explicit, and its premises are
-- the clauses of the steps word for word.
use Rattle.std.proofs.Common.{◌≡◌, refl, ℕ, zero, suc, ◌<◌, true, List, [], ◌∷◌, drop, Some, Result, Ok, Err, ap, arith}
use Rattle.std.specs.Prelude.{codes, option_and_then, option_map, slice_get, IsUtf8, IsAscii, MatchResult}
use Rattle.std.specs.List.{list_all}
use Rattle.std.specs.Result.{result_ok}
use Rattle.std.proofs.lemmas.Bool.{and_parts}
use Rattle.std.proofs.lemmas.Str.{IsUtf8-from_ascii}
use denote.Ref.{Bor}
use Rattle.mars_cell.specs.Header.{header_of, name_in, size_in}
use Rattle.mars_cell.specs.ParameterFaults.{is_within}

printed_is_ascii : (b : ℕ) → is_within 32 126 b ≡ true → b < 128
printed_is_ascii b e = grind arith

ascii : (text : List ℕ) → list_all (is_within 32 126) text ≡ true → IsAscii text
ascii [] all i = omega arith
ascii (b ∷ bs) all zero = printed_is_ascii b (and_parts (is_within 32 126 b) (list_all (is_within 32 126) bs) all).0
ascii (b ∷ bs) all (suc i) = ascii bs (and_parts (is_within 32 126 b) (list_all (is_within 32 126) bs) all).1 i

-- Printable bytes are valid UTF-8, so a UTF-8 reader returns them as a text.
pub printed_text : {E : Type 0} (text : List ℕ) (r : Result (Bor (List ℕ)) E) (P : E → Type 0) → list_all (is_within 32 126) text ≡ true
    → MatchResult r (λ s. (s.now ≡ text) × IsUtf8 text) (λ e. ¬ (IsUtf8 text) × P e) → option_map (λ s. s.now) (result_ok r) ≡ Some text
printed_text text (Ok s) P all read = ap Some read.0
printed_text text (Err e) P all read = absurd (read.0 (IsUtf8-from_ascii text (ascii text all)))

-- The header consists of the lines that are taken one after another.
pub header_made : (lines second third : List (List ℕ)) (written : ℕ) (name author : List ℕ)
    → option_and_then size_in (slice_get lines 0) ≡ Some written
    → second ≡ drop 1 lines → option_and_then (name_in (codes ";name ")) (slice_get second 0) ≡ Some name
    → third ≡ drop 1 second → option_and_then (name_in (codes ";author ")) (slice_get third 0) ≡ Some author
    → header_of lines ≡ Ok (record { written = written; name = name; author = author })
unfolding header_of
header_made [] second third written name author of_first to_second of_second to_third of_third = cc
header_made (l ∷ []) second third written name author of_first to_second of_second to_third of_third = let there = rw to_second at of_second in cc
header_made (l ∷ k ∷ []) second third written name author of_first to_second of_second to_third of_third = let there = rw (to_third, to_second) at of_third in cc
header_made (l ∷ k ∷ j ∷ ls) second third written name author of_first to_second of_second to_third of_third =
    rw (of_first, rw to_second at of_second, rw (to_third, to_second) at of_third) refl
