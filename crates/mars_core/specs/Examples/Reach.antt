-- How far limits reach, in a core of eight cells, from the last cell but one.
use Rattle.std.specs.Prelude.{refl}
use Rattle.std.proofs.Common.{inl, inr}
use Rattle.std.proofs.Math.Facts.{ltb_yes}
use Rattle.std.proofs.Math.Nat.{le_of_suc-le-suc}
use Rattle.mars_core.specs.Reach.{Reaches}
use Rattle.mars_core.specs.Examples.{the_machine}

-- A limit of five reaches two cells in each direction, past the end of the core.
pub five_cells_are_reached_by_five : Reaches 8 5 6 4 × Reaches 8 5 6 5 × Reaches 8 5 6 6 × Reaches 8 5 6 7 × Reaches 8 5 6 0
unfolding the_machine
five_cells_are_reached_by_five = (
  record { distance = 6; inside = ltb_yes tt; near = inr (ltb_yes tt); address_is = refl },
  record { distance = 7; inside = ltb_yes tt; near = inr (ltb_yes tt); address_is = refl },
  record { distance = 0; inside = ltb_yes tt; near = inl (le_of_suc-le-suc (ltb_yes tt)); address_is = refl },
  record { distance = 1; inside = ltb_yes tt; near = inl (le_of_suc-le-suc (ltb_yes tt)); address_is = refl },
  record { distance = 2; inside = ltb_yes tt; near = inl (le_of_suc-le-suc (ltb_yes tt)); address_is = refl },
)
