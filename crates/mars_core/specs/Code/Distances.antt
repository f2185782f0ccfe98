-- How the code finds cells with the same address: by the distances between starting positions.
use Rattle.std.specs.Prelude.{ℕ, ◌+◌, ◌-◌, ◌%◌, Bool, List}
use Rattle.std.specs.List.{list_any}
use Rattle.mars_core.specs.Start.{is_in}

-- The distance from the address `from` forward to the address `to`, in a core of `m` cells.
unfoldable pub distance : ℕ → ℕ → ℕ → ℕ
distance m from to = (to + (m - from % m)) % m

-- The lists `xs` and `ys` have an address in common.
unfoldable pub share : List ℕ → List ℕ → Bool
share xs ys = list_any (λ x. is_in ys x) xs
