-- The cells that a turn reads or writes, as numbers.
use Rattle.std.specs.Prelude.{ℕ, List, [], ◌∷◌, length, slice_index_or}
use Rattle.mars_core.specs.State.{State}
use Rattle.mars_core.specs.Touched.{touched_in_turn}
use Rattle.mars_c.specs.declared.touches.MarsTouched.{MarsTouched}

-- At most eight addresses and their number; unused places are 0.
abbrev pub plain_touched : List ℕ → MarsTouched
plain_touched addresses =
    let at = slice_index_or addresses in
    record { count = length addresses; address = at 0 0 ∷ at 1 0 ∷ at 2 0 ∷ at 3 0 ∷ at 4 0 ∷ at 5 0 ∷ at 6 0 ∷ at 7 0 ∷ [] }

-- The row of the next turn of the state `s`.
abbrev pub touched_row : State → MarsTouched
touched_row s = plain_touched (touched_in_turn s)
