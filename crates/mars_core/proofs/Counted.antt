-- In a valid state, the number of dead warriors is the number of deaths.
use Rattle.std.proofs.Common.{◌≡◌, ℕ, zero, suc, ◌+◌, ◌<◌, List, [], ◌∷◌, length, get_or, All, refl, ◌∙◌, arith, cond}
use Rattle.std.specs.Prelude.{◌==◌, false}
use Rattle.std.proofs.lemmas.Bool.Decides.{nat_tests}
use Rattle.std.proofs.lemmas.List.Elements.{All-head, All-tail}
use Rattle.std.proofs.lemmas.List.Sums.{sum_by-cons}
use Rattle.mars_core.specs.State.{State, is_empty, queue_of, survivors_of}
use Rattle.mars_core.specs.Validity.{times_died, IsValid}
use Rattle.mars_core.specs.declared.deaths.Death.{Death}

-- The sum of `f` over the first `n` numbers.
abbrev total : (ℕ → ℕ) → ℕ → ℕ
total f zero = 0
total f (suc n) = f 0 + total (λ k. f (suc k)) n

total_same : (f g : ℕ → ℕ) (n : ℕ) → ((k : ℕ) → k < n → f k ≡ g k) → total f n ≡ total g n
total_same f g zero h = refl
total_same f g (suc n) h =
    let rest = total_same (λ k. f (suc k)) (λ k. g (suc k)) n (λ k l. h (suc k) (omega arith)) in
    let first = h 0 (omega arith) in
    rw (first, rest) refl

total_both : (f g : ℕ → ℕ) (n : ℕ) → total (λ k. f k + g k) n ≡ total f n + total g n
total_both f g zero = refl
total_both f g (suc n) =
    let rest = total_both (λ k. f (suc k)) (λ k. g (suc k)) n in omega (arith, rest)

total_none : (n : ℕ) → total (λ k. 0) n ≡ 0
total_none zero = refl
total_none (suc n) = omega (arith, total_none n)

-- 1 if `k` is `w`, else 0.
abbrev at_place : ℕ → ℕ → ℕ
at_place w k = cond (w == k) 1 0

later : (k : ℕ) → at_place 0 (suc k) ≡ 0
later k = let e : (0 == suc k) ≡ false = grind (arith, nat_tests) in rw e refl

earlier : (w : ℕ) → at_place (suc w) 0 ≡ 0
earlier w = let e : (suc w == 0) ≡ false = grind (arith, nat_tests) in rw e refl

here : at_place 0 0 ≡ 1
here = refl

beside : (w k : ℕ) → at_place (suc w) (suc k) ≡ at_place w k
beside w k = let e : (suc w == suc k) ≡ (w == k) = grind (arith, nat_tests) in rw e refl

one_place : (w n : ℕ) → w < n → total (at_place w) n ≡ 1
one_place w zero h = absurd (omega arith)
one_place zero (suc n) h =
    let rest = total_same (λ k. at_place 0 (suc k)) (λ k. 0) n (λ k l. later k) ∙ total_none n in
    omega (arith, here, rest)
one_place (suc w) (suc n) h =
    let rest = total_same (λ k. at_place (suc w) (suc k)) (at_place w) n (λ k l. beside w k) ∙ one_place w n (omega arith) in
    omega (arith, earlier w, rest)

-- The numbers of deaths of all warriors add up to the number of deaths.
all_deaths : (ds : List Death) (n : ℕ) → All (λ (d : Death). d.warrior < n) ds → total (times_died ds) n ≡ length ds
all_deaths [] n h = total_none n
all_deaths (d ∷ ds) n h =
    let first = one_place d.warrior n (All-head (λ (d : Death). d.warrior < n) d ds h) in
    let rest = all_deaths ds n (All-tail (λ (d : Death). d.warrior < n) d ds h) in
    let apart = total_same (times_died (d ∷ ds)) (λ k. at_place d.warrior k + times_died ds k) n (λ k l. sum_by-cons (λ (d : Death). cond (d.warrior == k) 1 0) d ds) in
    let both = total_both (at_place d.warrior) (times_died ds) n in
    omega (arith, first, rest, apart, both)

-- The number of empty queues and the number of other queues add up to the number of queues.
all_queues : (qs : List (List ℕ)) → total (λ k. cond (is_empty (get_or qs k [])) 1 0) (length qs) + survivors_of qs ≡ length qs
all_queues [] = refl
all_queues ([] ∷ qs) =
    let rest = all_queues qs in
    let apart = sum_by-cons (λ (q : List ℕ). cond (is_empty q) 0 1) [] qs in
    omega (arith, rest, apart)
all_queues ((x ∷ q) ∷ qs) =
    let rest = all_queues qs in
    let apart = sum_by-cons (λ (q : List ℕ). cond (is_empty q) 0 1) (x ∷ q) qs in
    omega (arith, rest, apart)

pub valid_counted : (s : State) → IsValid s → length s.deaths + survivors_of s.queues ≡ length s.queues
valid_counted s v =
    let died = all_deaths s.deaths (length s.queues) v.deaths.known in
    let once = total_same (times_died s.deaths) (λ k. cond (is_empty (queue_of s.queues k)) 1 0) (length s.queues) v.deaths.once in
    let queues = all_queues s.queues in
    omega (arith, died, once, queues)
