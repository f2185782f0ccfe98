-- The printable form of a text of at most 60 bytes is printed.
use Rattle.std.proofs.Common.{◌≡◌, ℕ, ◌≤◌, List, [], ◌∷◌, length, map, Bool, true, false, ◌&&◌, nat_le, Result, Ok, Err, String, Global, ap, refl, string_bytes, subst, arith}
use Rattle.std.proofs.lemmas.List.{length-map}
use Rattle.std.proofs.lemmas.List.Elements.{All-cons, All-nil}
use Rattle.std.specs.List.{All}
use Rattle.std.specs.Result.{IfOk}
use Rattle.redcode_text.specs.declared.fault.TextTokenProblem.{TextTokenProblem}
use Rattle.redcode_text.specs.Lines.{printable}
use Rattle.redcode_text.specs.Code.Problems.{Gives}
use Rattle.redcode_text.specs.Programs.{IsPrinted}

in-range : (b : ℕ) → (32 ≤ printable b) × (printable b ≤ 126)
in-range b = go (nat_le 32 b) (nat_le b 126) refl refl
  where
    go : (s t : Bool) → nat_le 32 b ≡ s → nat_le b 126 ≡ t → (32 ≤ elim (s && t) as (λ _. ℕ) [ true ↦ b | false ↦ 63 ]) × (elim (s && t) as (λ _. ℕ) [ true ↦ b | false ↦ 63 ] ≤ 126)
    go true true e f = (grind (arith, e), grind (arith, f))
    go true false e f = (omega arith, omega arith)
    go false t e f = (omega arith, omega arith)

pub all-printed : (bs : List ℕ) → All (λ b. (32 ≤ b) × (b ≤ 126)) (map printable bs)
all-printed [] = All-nil (λ b. (32 ≤ b) × (b ≤ 126))
all-printed (b ∷ bs) = All-cons (λ b. (32 ≤ b) × (b ≤ 126)) (printable b) (map printable bs) (in-range b) (all-printed bs)

pub is-printed : (bs : List ℕ) → length bs ≤ 60 → IsPrinted (map printable bs)
is-printed bs few = record { short = omega (arith, few, length-map bs printable); printed = all-printed bs }

abbrev bytes-in : Result (List ℕ) TextTokenProblem → List ℕ
bytes-in (Ok bs) = bs
bytes-in (Err e) = []

pub printed_is_printed : (bs : List ℕ) (made : Result (String Global) TextTokenProblem) → length bs ≤ 60 → Gives (λ text. string_bytes text) made (Ok (map printable bs)) → IfOk made (λ value. IsPrinted (string_bytes value))
printed_is_printed bs (Ok text) few e = subst IsPrinted (ap bytes-in e) (is-printed bs few)
printed_is_printed bs (Err problem) few e = tt
