use Rattle.std.proofs.Common.{◌≡◌, ◌<◌, ◌+◌, ◌-◌, ◌*◌, ◌∷◌, ◌∙◌, refl, sym, ℕ, List, length, All, arith}
use Rattle.std.proofs.lemmas.List.Elements.{All-cons}
use Rattle.std.proofs.lemmas.List.Sorted.{All-permutation, IsNonDecreasingBy-from_sort}
use Rattle.std.specs.List.Sorted.{IsPermutation, IsNonDecreasing}
use Rattle.mars_match.specs.Placement.{draws, spread, ascending, starts_of, next_seed, room_for}
use Rattle.mars_match.proofs.Ascending.{ascending_is, ascending_zero}
use Rattle.mars_match.proofs.Draws.{draws_below, seed_after-add}
use Rattle.mars_match.proofs.Spacing.{spaced_starts}
use Rattle.mars_match.proofs.placement.place_all.Goals as goal

-- The sorted list of a start at 0 and the draws is 0, followed by the draws in ascending order.
sorted_is : (room n seed : ℕ) (xs ys : List ℕ) → xs ≡ 0 ∷ draws room n seed → IsPermutation xs ys → IsNonDecreasing ys → ys ≡ 0 ∷ ascending (draws room n seed)
sorted_is room n seed xs ys e p up = ascending_is (0 ∷ draws room n seed) ys (rw e at p) up ∙ ascending_zero (ascending (draws room n seed))

pub spread-requires-clause-below : goal.spread-requires-clause-below
spread-requires-clause-below c =
    let room = c.core_size-core_size.result - length c.args.starts.now * c.distance-distance.result + 1 in
    let n = length c.args.starts.now - 1 in
    let drawn : All (λ v. v < room) (0 ∷ draws room n c.args.seed) = All-cons (λ v. v < room) 0 _ (omega arith) (draws_below room n c.args.seed (omega arith)) in
    let sorted : All (λ v. v < room) c.sort_unstable.new.self = All-permutation (λ v. v < room) _ _ c.sort_unstable.ensures.permutation (rw c.draw_values-seed.ensures.starts drawn) in
    λ k d h. omega (arith, sorted k d h)

pub returns-clause-starts : goal.returns-clause-starts
unfolding starts_of
returns-clause-starts c =
    let p = c.args.params.now in
    let w = length c.args.starts.now in
    let size : c.core_size-core_size.result ≡ p.core_size = c.core_size-core_size.ensures.value in
    let distance : c.distance-distance.result ≡ p.distance = c.distance-distance.ensures in
    let sorted : c.sort_unstable.new.self ≡ 0 ∷ ascending (draws (room_for p w) (w - 1) c.args.seed) =
    sorted_is _ _ _ _ _ (rw (size, distance) at c.draw_values-seed.ensures.starts) c.sort_unstable.ensures.permutation (IsNonDecreasingBy-from_sort (λ x. x) _ c.sort_unstable.ensures.sorted) in
    let spread_out : c.spread.new.starts ≡ spread p.distance 0 (0 ∷ ascending (draws (room_for p w) (w - 1) c.args.seed)) = rw (distance, sorted) at c.spread.ensures in
    let many : length c.spread.new.starts ≡ w = omega arith in
    c.exchange.ensures.starts ∙ rw (many, c.draw_values-seed.ensures.seed, spread_out) refl

pub returns-clause-seed : goal.returns-clause-seed
unfolding next_seed
returns-clause-seed c =
    let w = length c.args.starts.now in
    let many : length c.spread.new.starts ≡ w = omega arith in
    c.exchange.ensures.seed ∙ rw (many, c.draw_values-seed.ensures.seed) (sym (seed_after-add (w - 1) (w - 2) c.args.seed))

pub returns-clause-spaced : goal.returns-clause-spaced
returns-clause-spaced c = rw (returns-clause-starts c) (spaced_starts c.args.params.now (length c.args.starts.now) c.args.seed c.core_size-core_size.ensures.in_range c.requires.some c.requires.room)
