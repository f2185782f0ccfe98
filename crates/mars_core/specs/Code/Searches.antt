-- What the code knows of a turn that it executed.
use Rattle.std.specs.Prelude.{◌≡◌, ℕ, ◌<◌, List, length}
use Rattle.mars_cell.specs.declared.instruction.Cell.{Cell}
use Rattle.mars_core.specs.Search.{uses}
use Rattle.mars_core.specs.Start.{is_in}
use Rattle.mars_core.specs.State.{State}
use Rattle.mars_core.specs.Turn.{turn_of, turn_record}
use Rattle.mars_core.specs.declared.record.Atom.{Atom}
use Rattle.mars_core.specs.declared.search.Way.{Way}

-- The turn of the state `s`, which has a core of the right size, leaves this core and has this record.
pub record IsSeen (s : State) (core : List Cell) (atom : Atom) : Type 0 where
  pub core_is : core ≡ (turn_of s).core
  pub atom_is : atom ≡ turn_record s
  pub size : length core ≡ s.params.core_size

-- `addresses` are those of the cells that the turn of the state `s` uses in the way `way`.
abbrev pub AreUsed : Way → State → List ℕ → Type 0
AreUsed way s addresses = (address : ℕ) → address < s.params.core_size → is_in addresses address ≡ uses way s address
