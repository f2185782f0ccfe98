-- The first of several lines, and a line without its comment.
use Rattle.std.proofs.Common.{◌≡◌, refl, ℕ, Bool, true, false, not, nat_eq, List, [], ◌∷◌, length, take, drop, ap, one-add}
use Rattle.std.specs.List.{take_while}
use Rattle.mars_cell.specs.Parts.{onto_first}
use Rattle.mars_cell.specs.Load.{lines_of}

-- The longest prefix whose bytes satisfy `p` is given by its length.
pub take_front : (p : ℕ → Bool) (xs : List ℕ) → take (length (take_while p xs)) xs ≡ take_while p xs
take_front p [] = refl
take_front p (x ∷ xs) =
    elim (p x) as (λ t. p x ≡ t → take (length (take_while p (x ∷ xs))) (x ∷ xs) ≡ take_while p (x ∷ xs)) [
      | true ↦ λ e. rw (e, one-add) (ap (λ w. x ∷ w) (take_front p xs))
      | false ↦ λ e. rw e refl
    ] refl

abbrev pub goes_on : ℕ → Bool
goes_on b = not (nat_eq b 10)

-- The lines of some bytes are the first line and the lines after its LF.
pub lines_of-first : (bs : List ℕ) (b : ℕ) → lines_of (b ∷ bs) ≡ take_while goes_on (b ∷ bs) ∷ lines_of (drop 1 (drop (length (take_while goes_on (b ∷ bs))) (b ∷ bs)))
unfolding lines_of
lines_of-first [] b =
    elim (nat_eq b 10) as (λ t. nat_eq b 10 ≡ t → lines_of (b ∷ []) ≡ take_while goes_on (b ∷ []) ∷ lines_of (drop 1 (drop (length (take_while goes_on (b ∷ []))) (b ∷ [])))) [
      | true ↦ λ e. rw e refl
      | false ↦ λ e. rw e refl
    ] refl
lines_of-first (c ∷ cs) b =
    elim (nat_eq b 10) as (λ t. nat_eq b 10 ≡ t → lines_of (b ∷ c ∷ cs) ≡ take_while goes_on (b ∷ c ∷ cs) ∷ lines_of (drop 1 (drop (length (take_while goes_on (b ∷ c ∷ cs))) (b ∷ c ∷ cs)))) [
      | true ↦ λ e. rw e refl
      | false ↦ λ e. rw (e, one-add) (ap (onto_first b) (lines_of-first cs c))
    ] refl

-- The lines of some bytes, stated with the lengths that the code computes.
pub lines_of-none : (bs : List ℕ) → length bs ≡ 0 → lines_of bs ≡ []
unfolding lines_of
lines_of-none [] h = refl
lines_of-none (b ∷ bs) h = cc

pub lines_of-some : (bs rest : List ℕ) → rest ≡ drop 1 (drop (length (take_while goes_on bs)) bs) → (length bs ≡ 0 → ⊥)
    → lines_of bs ≡ take (length (take_while goes_on bs)) bs ∷ lines_of rest
lines_of-some [] rest e some = absurd (some refl)
lines_of-some (b ∷ bs) rest e some = rw (take_front goes_on (b ∷ bs), e) (lines_of-first bs b)

pub behind_one : (all : List ℕ) (b : ℕ) (after : List ℕ) → all ≡ b ∷ after → after ≡ drop 1 all
behind_one all b after e = rw e refl

pub behind_none : (all : List ℕ) → length all ≡ 0 → all ≡ drop 1 all
behind_none [] h = refl
behind_none (b ∷ bs) h = cc
