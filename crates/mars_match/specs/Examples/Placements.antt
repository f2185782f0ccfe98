-- Examples: starting positions, and the seed for the next round.
use Rattle.std.specs.Prelude.{◌≡◌, ◌<◌, ◌≤◌, ℕ, [], ◌∷◌, None, Some, refl}
use Rattle.std.proofs.Common.{arith}
use Rattle.mars_cell.specs.Parameters.{Parameters}
use Rattle.mars_match.specs.Placement.{IsSpaced, drawn, starts_of, next_seed, place_fault}
use Rattle.mars_match.specs.declared.placement.PlaceFault.TheVariants.{NoRoom, BadSeed}

-- A core of `m` cells with the minimum distance `d`.
abbrev pub sizes : ℕ → ℕ → Parameters
sizes m d = record {
  core_size = m;
  processes = 1;
  cycles = 1;
  read_limit = m;
  write_limit = m;
  max_length = 1;
  distance = d;
}

pub starts_of_two : starts_of (sizes 8000 100) 2 1 ≡ 0 ∷ 1305 ∷ []
unfolding starts_of drawn
starts_of_two = refl

pub seed_after_two : next_seed 2 1 ≡ 16807
unfolding next_seed drawn
seed_after_two = refl

pub starts_of_three : starts_of (sizes 8000 100) 3 1 ≡ 0 ∷ 1505 ∷ 2769 ∷ []
unfolding starts_of drawn
starts_of_three = refl

pub seed_after_three : next_seed 3 1 ≡ 1622650073
unfolding next_seed drawn
seed_after_three = refl

-- If there is only one possible position, the seed has no effect.
pub one_place_alone : starts_of (sizes 200 100) 2 5 ≡ 0 ∷ 100 ∷ []
unfolding starts_of drawn
one_place_alone = refl

pub no_room : place_fault (sizes 199 100) 2 1 ≡ Some NoRoom
no_room = refl

pub room_comes_before_the_seed : place_fault (sizes 199 100) 2 0 ≡ Some NoRoom
room_comes_before_the_seed = refl

pub seed_zero : place_fault (sizes 8000 100) 1 0 ≡ Some BadSeed
seed_zero = refl

pub seed_too_great : place_fault (sizes 8000 100) 1 2147483647 ≡ Some BadSeed
seed_too_great = refl

-- The minimum and the maximum seed.
pub seeds_in_range : (place_fault (sizes 8000 100) 1 1 ≡ None) × (place_fault (sizes 8000 100) 1 2147483646 ≡ None)
seeds_in_range = (refl, refl)

pub starts_of_second_round : starts_of (sizes 8000 100) 2 16807 ≡ 0 ∷ 1139 ∷ []
unfolding starts_of drawn
starts_of_second_round = refl

pub seed_after_second_round : next_seed 2 16807 ≡ 282475249
unfolding next_seed drawn
seed_after_second_round = refl

pub starts_of_third_round : starts_of (sizes 8000 100) 2 282475249 ≡ 0 ∷ 3168 ∷ []
unfolding starts_of drawn
starts_of_third_round = refl

pub seed_after_third_round : next_seed 2 282475249 ≡ 1622650073
unfolding next_seed drawn
seed_after_third_round = refl

pub starts_of_four : starts_of (sizes 400 100) 4 1 ≡ 0 ∷ 200 ∷ 100 ∷ 300 ∷ []
unfolding starts_of drawn
starts_of_four = refl

pub seed_after_four : next_seed 4 1 ≡ 1144108930
unfolding next_seed drawn
seed_after_four = refl

-- The draws modulo 7,701 are 4,215 and 6, and start 2 is exchanged with itself.
pub draws_are_put_in_order : starts_of (sizes 8000 100) 3 3 ≡ 0 ∷ 106 ∷ 4415 ∷ []
unfolding starts_of drawn
draws_are_put_in_order = refl

-- In order, the starts are 0, 4717, 4945 and 6720. Start 3 is exchanged with start 2, and then start 2 with start 1.
pub exchanges_begin_with_the_last : starts_of (sizes 8000 100) 4 4 ≡ 0 ∷ 6720 ∷ 4717 ∷ 4945 ∷ []
unfolding starts_of drawn
exchanges_begin_with_the_last = refl

pub start_of_one : starts_of (sizes 400 100) 1 1 ≡ 0 ∷ []
unfolding starts_of drawn
start_of_one = refl

pub seed_after_one : next_seed 1 1 ≡ 1
unfolding next_seed
seed_after_one = refl

-- In a core of 200 cells no two starts are 99 cells apart, in either direction, and no start is 200.
pub starts_that_are_not_spaced : (IsSpaced 200 100 (0 ∷ 99 ∷ []) → ⊥) × (IsSpaced 200 100 (0 ∷ 101 ∷ []) → ⊥) × (IsSpaced 200 100 (200 ∷ []) → ⊥)
starts_that_are_not_spaced = (
  λ s. let e : 100 ≤ 99 = (s.apart 0 1 (λ e. omega (arith, e)) (omega arith) (omega arith)).up in omega (arith, e),
  λ s. let e : 100 ≤ 99 = (s.apart 0 1 (λ e. omega (arith, e)) (omega arith) (omega arith)).down in omega (arith, e),
  λ s. let e : 200 < 200 = s.inside 0 (omega arith) in omega (arith, e),
)
