-- The table of labels, as the code builds it.
use Rattle.std.specs.Prelude.{ℕ, List, [], ◌∷◌, ◌++◌, true, false, is_some, nat_eq}
use Rattle.std.specs.Map.{lookup}
use Rattle.redcode_asm.specs.Assembly.{Placed}

-- Labels, each with the index of the line that it labels.
abbrev pub Table : Type 0
Table = List (ℕ × ℕ)

-- The table with the label `n` of the index `index` added, unless it is in the table already.
abbrev pub with_label : ℕ → Table → ℕ → Table
with_label index table n = elim (is_some (lookup (nat_eq n) table)) [ true ↦ table | false ↦ table ++ (n, index) ∷ [] ]

-- The table with the labels of a line added. The line has the index `index`.
abbrev pub with_labels : ℕ → Table → List ℕ → Table
with_labels index table [] = table
with_labels index table (n ∷ ns) = with_labels index (with_label index table n) ns

-- The table with the labels of the given lines appended.
abbrev pub table_with : Table → List Placed → Table
table_with table [] = table
table_with table (p ∷ ps) = table_with (with_labels p.index table p.line.labels) ps
