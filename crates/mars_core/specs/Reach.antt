-- How far a process reaches under a limit: the distances from its own address that can result from folding.
use Rattle.std.specs.Prelude.{◌≡◌, ℕ, ◌+◌, ◌/◌, ◌<◌, ◌≤◌, ◌⊎◌}
use Rattle.mars_core.specs.Addresses.{address_after}

-- In a core of `m` cells, `distance` forward is near if it is at most half of `limit`, or if `m - distance`, the
-- distance backward to the same cell, is less than `limit - limit / 2`.
abbrev pub IsNear : ℕ → ℕ → ℕ → Type 0
IsNear m limit distance = (distance ≤ limit / 2) ⊎ (m + limit / 2 < distance + limit)

-- In a core of `m` cells, a process at `pc` reaches `address` under `limit`.
pub record Reaches (m limit pc address : ℕ) : Type 0 where
  pub distance : ℕ
  pub inside : distance < m
  pub near : IsNear m limit distance
  pub address_is : address ≡ address_after m pc distance
