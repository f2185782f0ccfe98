-- Reading one more warrior.
use Rattle.std.proofs.Common.{◌≡◌, ℕ, ◌+◌, ◌≤◌, ◌<◌, List, [], ◌∷◌, ◌++◌, length, take, drop, get_or, refl}
use Rattle.std.proofs.lemmas.List.{take_more}
use Rattle.mars_cell.specs.Parameters.{Parameters}
use Rattle.mars_cell.specs.Warriors.{WarriorValue}
use Rattle.mars_c.specs.Entrants.{IsEntrant, Reads}
use Rattle.mars_c.specs.declared.cells.MarsCell.{MarsCell}
use Rattle.mars_c.specs.declared.warriors.MarsWarrior.{MarsWarrior}

module _ (p : Parameters) (one : MarsWarrior) (w : WarriorValue) (rest : List MarsCell) (few : one.length ≤ length rest) (read : IsEntrant p (take one.length rest) one.start [] [] w) where
  reads_push : (cells : List MarsCell) (ns : List MarsWarrior) (ws : List WarriorValue) → Reads p cells ns ws rest → Reads p cells (ns ++ one ∷ []) (ws ++ w ∷ []) (drop one.length rest)
  reads_push cells [] [] all = (rw all few, rw all read, rw all refl)
  reads_push cells [] (v ∷ ws) all = absurd all
  reads_push cells (m ∷ ns) [] all = absurd all
  reads_push cells (m ∷ ns) (v ∷ ws) all = (all.0, all.1, reads_push (drop m.length cells) ns ws all.2)

  pub reads_more : (cells : List MarsCell) (ns : List MarsWarrior) (i : ℕ) (d : MarsWarrior) (ws : List WarriorValue) → i < length ns → get_or ns i d ≡ one
      → Reads p cells (take i ns) ws rest → Reads p cells (take (i + 1) ns) (ws ++ w ∷ []) (drop one.length rest)
  reads_more cells ns i d ws inside there all = rw (take_more ns i d inside, there) (reads_push cells (take i ns) ws all)
