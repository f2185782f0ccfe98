-- Cells that are read from an array of the caller, and the error of a wrong cell.
use Rattle.std.proofs.Common.{◌≡◌, refl, ℕ, ◌+◌, ◌<◌, All, List, [], ◌∷◌, ◌++◌, get_or, length, map, subst, take}
use Rattle.std.proofs.lemmas.List.{map-append, take_more}
use Rattle.std.proofs.lemmas.List.Elements.{All-map}
use Rattle.mars_cell.specs.Cells.{FitsCore}
use Rattle.mars_cell.specs.declared.instruction.Cell.{Cell}
use Rattle.mars_c.specs.Cells.{plain_cell}
use Rattle.mars_cell.specs.Parameters.{Parameters}
use Rattle.mars_c.specs.Entrants.{IsCellOf, IsNoEntrant, IsWrongCell}
use Rattle.mars_c.specs.declared.cells.MarsCell.{MarsCell}
use Rattle.mars_c.specs.declared.warriors.EntrantFault.{EntrantFault}
use Rattle.mars_c.specs.declared.warriors.EntrantFault.TheVariants.{OutOfMemory, Length, Start, Cell as WrongCell, Field, Name}

-- If `cells` were read from `numbers` and fit a core of `m` cells, `numbers` are cells of this core.
pub are_cells : (m : ℕ) (cells : List Cell) (numbers : List MarsCell) → map plain_cell cells ≡ numbers → All (FitsCore m) cells → All (IsCellOf m) numbers
are_cells m cells numbers read fit = subst (All (IsCellOf m)) read (All-map (IsCellOf m) plain_cell cells (λ k d inside. (_, refl, fit k d inside)))

-- If `cells` were read from the first `i` items and `cell` from item `i`, all were read from the first `i + 1` items.
pub cells_more : (cells : List Cell) (cell : Cell) (numbers : List MarsCell) (i : ℕ) (d : MarsCell) → i < length numbers → map plain_cell cells ≡ take i numbers → plain_cell cell ≡ get_or numbers i d
    → map plain_cell (cells ++ cell ∷ []) ≡ take (i + 1) numbers
cells_more cells cell numbers i d inside read here = rw (take_more numbers i d inside, map-append plain_cell cells (cell ∷ []), read, here) refl

-- The error of a wrong cell is a reason for which the numbers `cells` are no warrior.
pub no_entrant : (p : Parameters) (cells : List MarsCell) (start : ℕ) (fault : EntrantFault) → IsWrongCell p.core_size cells fault → IsNoEntrant p cells start fault
no_entrant p cells start Length wrong = absurd wrong
no_entrant p cells start Start wrong = absurd wrong
no_entrant p cells start OutOfMemory wrong = wrong
no_entrant p cells start (WrongCell i) wrong = wrong
no_entrant p cells start (Field i) wrong = wrong
no_entrant p cells start Name wrong = wrong
