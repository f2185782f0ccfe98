-- Sums of rounds.
use Rattle.std.proofs.Common.{◌≡◌, refl, ◌∙◌, ap, ℕ, ◌+◌, ◌<◌, ◌≤◌, Bool, true, cond, List, [], ◌∷◌, ◌++◌, length, take, drop, get_or, set, All, map, append_assoc, take-append-drop, ◌-◌, arith}
use Rattle.std.specs.Prelude.{not, if◌then◌else◌}
use Rattle.std.proofs.lemmas.List.{take_more_set, drop_more, drop-set-lt}
use Rattle.std.proofs.lemmas.List.Elements.{All-head, All-tail, All-push}
use Rattle.std.proofs.lemmas.List.Sums.{sum_by-append, sum_by-cons}
use Rattle.mars_core.specs.State.{State, is_empty, survivors_of}
use Rattle.mars_match.specs.Battles.{rotated, lives, in_load_order}
use Rattle.mars_match.specs.Rounds.{Outcome, how_many}
use Rattle.mars_match.specs.Code.Tallies.{added, all_added}
use Rattle.mars_match.specs.declared.table.Tally.{Tally}

-- One more tally has the round added.
pub added_more : (o : Outcome) (xs : List Tally) (i : ℕ) (t d : Tally) → i < length xs → t ≡ added o i (get_or xs i d) →
    take (i + 1) (set xs i t) ++ all_added o (i + 1) (drop (i + 1) (set xs i t)) ≡ take i xs ++ all_added o i (drop i xs)
added_more o xs i t d h e =
    let left : i < i + 1 = omega arith in
    rw (take_more_set xs i t h, append_assoc, drop-set-lt (i + 1) xs i t left, drop_more xs i d h, e) refl

pub left_more : (P : Tally → Type 0) (xs : List Tally) (i : ℕ) (t d : Tally) → i < length xs → All P (drop i xs) → All P (drop (i + 1) (set xs i t))
left_more P xs i t d h all =
    let left : i < i + 1 = omega arith in
    rw (drop-set-lt (i + 1) xs i t left) (All-tail P (get_or xs i d) (drop (i + 1) xs) (rw (drop_more xs i d h) at all))

pub done_more : (P : Tally → Type 0) (xs : List Tally) (i : ℕ) (t : Tally) → i < length xs → P t → All P (take i xs) → All P (take (i + 1) (set xs i t))
done_more P xs i t h p all = rw (take_more_set xs i t h) (All-push P (take i xs) t all p)

-- ---- The survivors

how_many-append : (xs ys : List Bool) → how_many (xs ++ ys) ≡ how_many xs + how_many ys
how_many-append xs ys = sum_by-append (λ alive. cond alive 1 0) xs ys

pub how_many-lives : (queues : List (List ℕ)) → how_many (map (λ queue. not (is_empty queue)) queues) ≡ survivors_of queues
how_many-lives [] = refl
how_many-lives ([] ∷ queues) = how_many-lives queues
how_many-lives ((x ∷ q) ∷ queues) =
    omega (arith, how_many-lives queues, sum_by-cons (λ alive. cond alive 1 0) true (map (λ (queue : List ℕ). not (is_empty queue)) queues), sum_by-cons (λ (queue : List ℕ). if is_empty queue then 0 else 1) (x ∷ q) queues)

pub how_many-rotated : (n : ℕ) (xs : List Bool) → how_many (rotated n xs) ≡ how_many xs
how_many-rotated n xs = omega (arith, how_many-append (drop n xs) (take n xs), how_many-append (take n xs) (drop n xs), ap how_many (take-append-drop n xs))

pub how_many-in_order : (first : ℕ) (s : State) → how_many (in_load_order first s) ≡ survivors_of s.queues
how_many-in_order first s = how_many-rotated (length s.queues - first) (lives s) ∙ how_many-lives s.queues

pub survivors-le : (queues : List (List ℕ)) → survivors_of queues ≤ length queues
survivors-le [] = omega arith
survivors-le ([] ∷ queues) = omega (arith, survivors-le queues)
survivors-le ((x ∷ q) ∷ queues) = omega (arith, survivors-le queues, sum_by-cons (λ (queue : List ℕ). if is_empty queue then 0 else 1) (x ∷ q) queues)

pub at_left : (P : Tally → Type 0) (xs : List Tally) (i : ℕ) (d : Tally) → i < length xs → All P (drop i xs) → P (get_or xs i d)
at_left P xs i d h all = All-head P (get_or xs i d) (drop (i + 1) xs) (rw (drop_more xs i d h) at all)
