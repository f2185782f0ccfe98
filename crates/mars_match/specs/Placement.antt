-- The starting positions of the warriors of a battle. A start is the address of a warrior's first cell.
use Rattle.std.specs.Prelude.{◌≡◌, ℕ, zero, suc, ◌+◌, ◌-◌, ◌*◌, ◌%◌, ◌<◌, ◌≤◌, ◌≢◌, ◌&&◌, not, nat_lt, nat_le, if◌then◌else◌, List, [], ◌∷◌, length, Option, None, Some, IfSome, swap, slice_index_or}
use Rattle.mars_cell.specs.Parameters.{Parameters}
use Rattle.mars_match.specs.declared.placement.PlaceFault.{PlaceFault}
use Rattle.mars_match.specs.declared.placement.PlaceFault.TheVariants.{NoRoom, BadSeed}

-- The maximum seed; the minimum is 1.
abbrev pub max_seed : ℕ
max_seed = 2147483646

-- One draw of the generator of Park and Miller. The result is both the drawn number and the new seed.
unfoldable pub drawn : ℕ → ℕ
drawn seed = (16807 * seed) % 2147483647

-- The seed after `n` draws.
abbrev pub seed_after : ℕ → ℕ → ℕ
seed_after zero seed = seed
seed_after (suc n) seed = seed_after n (drawn seed)

-- `n` draws, each taken modulo `room`.
abbrev pub draws : ℕ → ℕ → ℕ → List ℕ
draws room zero seed = []
draws room (suc n) seed = (drawn seed % room) ∷ draws room n (drawn seed)

-- An ascending list with `x` inserted, before the first value that is not smaller.
abbrev pub inserted : ℕ → List ℕ → List ℕ
inserted x [] = x ∷ []
inserted x (y ∷ ys) = if nat_le x y then x ∷ y ∷ ys else y ∷ inserted x ys

-- The values in ascending order.
abbrev pub ascending : List ℕ → List ℕ
ascending [] = []
ascending (x ∷ xs) = inserted x (ascending xs)

-- The values, each plus its index times the distance, where the first value has the index `i`.
abbrev pub spread : ℕ → ℕ → List ℕ → List ℕ
spread distance i [] = []
spread distance i (v ∷ values) = (v + i * distance) ∷ spread distance (i + 1) values

-- The starts after `n` exchanges. Each start, from number `n + 1` down to 2, is exchanged with start `1 + x % i`, where
-- `i` is its number and `x` a new draw.
abbrev pub exchanged : ℕ → ℕ → List ℕ → List ℕ
exchanged zero seed starts = starts
exchanged (suc n) seed starts = exchanged n (drawn seed) (swap starts (n + 2) (1 + drawn seed % (n + 2)))

-- The modulus for draws: the number of cells that the minimum distances of `w` warriors leave, plus 1.
abbrev pub room_for : Parameters → ℕ → ℕ
room_for p w = p.core_size - w * p.distance + 1

-- The starts before the exchanges: start 0 is 0, and the others are in ascending order.
abbrev pub starts_in_order : Parameters → ℕ → ℕ → List ℕ
starts_in_order p w seed = spread p.distance 0 (0 ∷ ascending (draws (room_for p w) (w - 1) seed))

-- The starts of `w` warriors.
unfoldable pub starts_of : Parameters → ℕ → ℕ → List ℕ
starts_of p w seed = exchanged (w - 2) (seed_after (w - 1) seed) (starts_in_order p w seed)

-- The seed for the next round, after the starts of `w` warriors were drawn.
unfoldable pub next_seed : ℕ → ℕ → ℕ
next_seed w seed = seed_after ((w - 1) + (w - 2)) seed

-- The first error of placing `w` warriors, if there is one.
abbrev pub place_fault : Parameters → ℕ → ℕ → Option PlaceFault
place_fault p w seed =
    if nat_lt p.core_size (w * p.distance) then Some NoRoom
    else if not (nat_le 1 seed && nat_le seed max_seed) then Some BadSeed
    else None

-- The number of cells from one address up to another, around the core.
abbrev pub forward_distance : ℕ → ℕ → ℕ → ℕ
forward_distance core_size from to = (to + (core_size - from)) % core_size

-- Two addresses are at least `distance` cells apart, both ways around the core.
pub record AreApart (core_size distance a b : ℕ) : Type 0 where
  pub up : distance ≤ forward_distance core_size a b
  pub down : distance ≤ forward_distance core_size b a

-- Each start is in the core, and any two are at least `distance` cells apart.
pub record IsSpaced (core_size distance : ℕ) (starts : List ℕ) : Type 0 where
  pub inside : (i : ℕ) → i < length starts → slice_index_or starts i 0 < core_size
  pub apart : (i j : ℕ) → i ≢ j → i < length starts → j < length starts → AreApart core_size distance (slice_index_or starts i 0) (slice_index_or starts j 0)

-- A fixed position is allowed only for two warriors. It is the start of the second one, at least the minimum distance
-- from the first one, both ways around the core.
abbrev pub FitsTwo : Parameters → ℕ → Option ℕ → Type 0
FitsTwo p warriors fixed = IfSome fixed (λ position. (warriors ≡ 2) × (p.distance ≤ position) × (position ≤ p.core_size - p.distance))
