-- Lists of names as sets. A name is given by its index.
use Rattle.std.specs.Prelude.{◌≡◌, ℕ, List, Bool, ◌==◌}
use Rattle.std.specs.List.{list_any}

-- `n` is among the names.
abbrev pub has : List ℕ → ℕ → Bool
has names n = list_any (λ m. m == n) names

-- Both lists have the same names, apart from their order and repetitions.
abbrev pub HasSame : List ℕ → List ℕ → Type 0
HasSame names others = (n : ℕ) → has names n ≡ has others n

-- `names` are the labels of all lines, apart from their order and repetitions. `labels` gives the labels of one line.
abbrev pub AreLabels : {X : Type 0} → (X → List ℕ) → List ℕ → List X → Type 0
AreLabels labels names lines = (n : ℕ) → has names n ≡ list_any (λ l. has (labels l) n) lines
