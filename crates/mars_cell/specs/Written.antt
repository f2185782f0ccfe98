-- The load file that is written, of version 2.
use Rattle.std.specs.Prelude.{ℕ, List, [], ◌∷◌, ◌++◌, map, codes, decimal}
use Rattle.std.specs.List.{flat_map}
use Rattle.mars_cell.specs.Warriors.{WarriorValue}
use Rattle.mars_cell.specs.Text.{cell_text}

-- The lines of the statements of `w` for a core of `m` cells: the start, then each cell.
abbrev pub statement_lines : ℕ → WarriorValue → List (List ℕ)
statement_lines m w = (codes "ORG " ++ decimal w.start) ∷ map (cell_text m) w.cells

-- The lines of the load file of `w` for a core of `m` cells: the core size, the names, then the statements.
abbrev pub load_lines : ℕ → WarriorValue → List (List ℕ)
load_lines m w = (codes ";load 2 " ++ decimal m) ∷ (codes ";name " ++ w.name) ∷ (codes ";author " ++ w.author) ∷ statement_lines m w

-- A line, terminated by LF.
abbrev pub with_newline : List ℕ → List ℕ
with_newline line = line ++ 10 ∷ []

-- The bytes of the load file of `w` for a core of `m` cells.
abbrev pub load_text : ℕ → WarriorValue → List ℕ
load_text m w = flat_map with_newline (load_lines m w)
