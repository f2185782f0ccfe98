-- The list of what an execution touches, part by part.
use Rattle.std.proofs.Common.{◌≡◌, ℕ, List, [], ◌∷◌, ◌++◌, map, All, ap, ◌∙◌}
use Rattle.std.proofs.lemmas.List.{map-append}
use Rattle.std.proofs.lemmas.List.Elements.{All-append, All-cons, All-head, All-nil, All-tail}

-- The touched addresses in order: the instruction, those of the A-operand, those of the B-operand, and the B-target.
abbrev pub listed : ℕ → List ℕ → ℕ → List ℕ → ℕ → ℕ → List ℕ
listed pc a_pointed a b_pointed b target = pc ∷ a_pointed ++ a ∷ b_pointed ++ b ∷ target ∷ []

module _ (P : ℕ → Type 0) where
  pub All-left : (xs ys : List ℕ) → All P (xs ++ ys) → All P xs
  All-left [] ys all = All-nil P
  All-left (x ∷ xs) ys all = All-cons P x xs (All-head P x (xs ++ ys) all) (All-left xs ys (All-tail P x (xs ++ ys) all))

  pub All-right : (xs ys : List ℕ) → All P (xs ++ ys) → All P ys
  All-right [] ys all = all
  All-right (x ∷ xs) ys all = All-right xs ys (All-tail P x (xs ++ ys) all)

  module _ (pc : ℕ) (a_pointed : List ℕ) (a : ℕ) (b_pointed : List ℕ) (b target : ℕ) where
    pub record Parts : Type 0 where
      pub here : P pc
      pub a_goes : All P a_pointed
      pub a_copies : P a
      pub b_goes : All P b_pointed
      pub b_copies : P b
      pub target_is : P target

    pub parts_of : All P (listed pc a_pointed a b_pointed b target) → Parts
    parts_of all =
        let front = All-left (pc ∷ a_pointed ++ a ∷ b_pointed) (b ∷ target ∷ []) all in
        let last = All-right (pc ∷ a_pointed ++ a ∷ b_pointed) (b ∷ target ∷ []) all in
        let first = All-left (pc ∷ a_pointed) (a ∷ b_pointed) front in
        let second = All-right (pc ∷ a_pointed) (a ∷ b_pointed) front in
        record {
          here = All-head P pc a_pointed first;
          a_goes = All-tail P pc a_pointed first;
          a_copies = All-head P a b_pointed second;
          b_goes = All-tail P a b_pointed second;
          b_copies = All-head P b (target ∷ []) last;
          target_is = All-head P target [] (All-tail P b (target ∷ []) last);
        }

    pub all_of : Parts → All P (listed pc a_pointed a b_pointed b target)
    all_of k =
        All-append P (pc ∷ a_pointed ++ a ∷ b_pointed) (b ∷ target ∷ [])
        (All-append P (pc ∷ a_pointed) (a ∷ b_pointed) (All-cons P pc a_pointed k.here k.a_goes) (All-cons P a b_pointed k.a_copies k.b_goes))
        (All-cons P b (target ∷ []) k.b_copies (All-cons P target [] k.target_is (All-nil P)))

-- Mapping the list maps its parts.
pub map-listed : (f : ℕ → ℕ) (pc : ℕ) (a_pointed : List ℕ) (a : ℕ) (b_pointed : List ℕ) (b target : ℕ) → map f (listed pc a_pointed a b_pointed b target) ≡ listed (f pc) (map f a_pointed) (f a) (map f b_pointed) (f b) (f target)
map-listed f pc a_pointed a b_pointed b target =
    map-append f (pc ∷ a_pointed ++ a ∷ b_pointed) (b ∷ target ∷ []) ∙ ap (λ l. l ++ f b ∷ f target ∷ []) (map-append f (pc ∷ a_pointed) (a ∷ b_pointed))
