-- Names in 64 bytes.
use Rattle.std.proofs.Common.{◌≡◌, ap, ℕ, zero, suc, ◌<◌, Bool, true, false, List, [], ◌∷◌, ◌++◌, Some, Result, Ok, Err, drop, length, replicate, take, one-add, refl, arith}
use Rattle.std.specs.Prelude.{take_while, option_map, IsAscii, IsUtf8, MatchResult}
use Rattle.std.specs.List.{list_all}
use Rattle.std.specs.Result.{result_ok}
use Rattle.std.proofs.lemmas.Bool.{and_parts}
use Rattle.std.proofs.lemmas.List.{drop-replicate}
use Rattle.std.proofs.lemmas.Str.{IsUtf8-from_ascii}
use denote.Ref.{Bor}
use Rattle.mars_cell.specs.ParameterFaults.{is_within}
use Rattle.mars_c.specs.Entrants.{plain_name}

pub padded : (name : List ℕ) → name ++ drop (length name) (replicate 64 0) ≡ plain_name name
padded name = ap (λ zeros. name ++ zeros) (drop-replicate (length name) 64 0)

pub first_part : (p : ℕ → Bool) (xs : List ℕ) → take (length (take_while p xs)) xs ≡ take_while p xs
first_part p [] = refl
first_part p (x ∷ xs) =
    elim (p x) as (λ t. p x ≡ t → take (length (take_while p (x ∷ xs))) (x ∷ xs) ≡ take_while p (x ∷ xs)) [
      | true ↦ λ e. rw (e, one-add) (ap (λ w. x ∷ w) (first_part p xs))
      | false ↦ λ e. rw e refl
    ] refl

printed_is_ascii : (b : ℕ) → is_within 32 126 b ≡ true → b < 128
printed_is_ascii b e = grind arith

ascii : (text : List ℕ) → list_all (is_within 32 126) text ≡ true → IsAscii text
ascii [] all i = omega arith
ascii (b ∷ bs) all zero = printed_is_ascii b (and_parts (is_within 32 126 b) (list_all (is_within 32 126) bs) all).0
ascii (b ∷ bs) all (suc i) = ascii bs (and_parts (is_within 32 126 b) (list_all (is_within 32 126) bs) all).1 i

-- Printable bytes are the UTF-8 of a text, so a reader of UTF-8 accepts them.
pub printed_text : {E : Type 0} (text : List ℕ) (r : Result (Bor (List ℕ)) E) (P : E → Type 0) → list_all (is_within 32 126) text ≡ true
    → MatchResult r (λ s. (s.now ≡ text) × IsUtf8 text) (λ e. ¬ (IsUtf8 text) × P e) → option_map (λ s. s.now) (result_ok r) ≡ Some text
printed_text text (Ok s) P all read = ap Some read.0
printed_text text (Err e) P all read = absurd (read.0 (IsUtf8-from_ascii text (ascii text all)))
