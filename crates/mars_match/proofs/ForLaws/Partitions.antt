-- A league is its pairs: the rows of some of the pairs and those of the others add up to the rows of all, and a new
-- warrior changes no pair of the others.
use Rattle.std.proofs.Common.{◌≡◌, ◌∙◌, refl, sym, ap, ℕ, ◌+◌, ◌+ℤ◌, Bool, true, false, not, nat_eq, inl, inr, List, [], ◌∷◌, ◌++◌, length, Option, Result, Ok, Err, arith}
use Rattle.std.specs.List.{filter}
use Rattle.std.proofs.Math.IntN.{+ℤ_assoc, +ℤ_comm, +ℤ_idl}
use Rattle.std.proofs.lemmas.Bool.{cases_Bool}
use Rattle.std.proofs.lemmas.List.Elements.{filter-append}
use Rattle.std.proofs.lemmas.List.Sums.{sum_by-append}
use Rattle.mars_cell.specs.Parameters.{Parameters}
use Rattle.mars_cell.specs.Warriors.{WarriorValue}
use Rattle.redcode_text.specs.Results.{◌>>=◌}
use Rattle.redcode_text.specs.Tokens.{Scanned}
use Rattle.mars_match.specs.Laws.{AddsUp, added_rows, is_of}
use Rattle.mars_match.specs.Leagues.{Pair, PlacedRow, all_pairs, all_points, own_rows, pairs_with, placed_rows, rows_of_pairs, sum_of_rows}
use Rattle.mars_match.specs.Rounds.{table_of}
use Rattle.mars_match.specs.Tables.{RowValue}
use Rattle.mars_match.specs.declared.fault.MatchFault.{MatchFault}

-- ---- Sums

own_append : (i : ℕ) (xs ys : List PlacedRow) → own_rows i (xs ++ ys) ≡ own_rows i xs ++ own_rows i ys
own_append i [] ys = refl
own_append i (x ∷ xs) ys = elim (cases_Bool (nat_eq x.place i)) [
  | inl own ↦ rw own (ap (λ rows. x.row ∷ rows) (own_append i xs ys))
  | inr other ↦ rw other (own_append i xs ys)
]

points_append : (xs ys : List RowValue) → all_points (xs ++ ys) ≡ all_points xs +ℤ all_points ys
points_append [] ys = sym (+ℤ_idl (all_points ys))
points_append (x ∷ xs) ys = ap (λ z. x.points +ℤ z) (points_append xs ys) ∙ sym (+ℤ_assoc x.points (all_points xs) (all_points ys))

module _ (w : WarriorValue) (i : ℕ) where
  -- The sum of the rows of warrior `i`.
  abbrev sum : List PlacedRow → RowValue
  sum rows = sum_of_rows w (own_rows i rows)

  sum_append : (xs ys : List PlacedRow) → sum (xs ++ ys) ≡ added_rows (sum xs) (sum ys)
  sum_append xs ys =
      let a = own_rows i xs in
      let b = own_rows i ys in
      rw (own_append i xs ys, points_append a b, sum_by-append (λ (row : RowValue). row.wins) a b, sum_by-append (λ (row : RowValue). row.ties) a b, sum_by-append (λ (row : RowValue). row.losses) a b) refl

  sum_inside : (placed inside outside : List PlacedRow) → added_rows (sum placed) (added_rows (sum inside) (sum outside)) ≡ added_rows (added_rows (sum placed) (sum inside)) (sum outside)
  sum_inside placed inside outside =
      let points = +ℤ_assoc (sum placed).points (sum inside).points (sum outside).points in
      let wins : (sum placed).wins + ((sum inside).wins + (sum outside).wins) ≡ (sum placed).wins + (sum inside).wins + (sum outside).wins = omega arith in
      let ties : (sum placed).ties + ((sum inside).ties + (sum outside).ties) ≡ (sum placed).ties + (sum inside).ties + (sum outside).ties = omega arith in
      let losses : (sum placed).losses + ((sum inside).losses + (sum outside).losses) ≡ (sum placed).losses + (sum inside).losses + (sum outside).losses = omega arith in
      rw (← points, wins, ties, losses) refl

  sum_outside : (placed inside outside : List PlacedRow) → added_rows (sum placed) (added_rows (sum inside) (sum outside)) ≡ added_rows (sum inside) (added_rows (sum placed) (sum outside))
  sum_outside placed inside outside =
      let x = (sum placed).points in
      let y = (sum inside).points in
      let z = (sum outside).points in
      let points : x +ℤ (y +ℤ z) ≡ y +ℤ (x +ℤ z) = sym (+ℤ_assoc x y z) ∙ ap (λ s. s +ℤ z) (+ℤ_comm x y) ∙ +ℤ_assoc y x z in
      let wins : (sum placed).wins + ((sum inside).wins + (sum outside).wins) ≡ (sum inside).wins + ((sum placed).wins + (sum outside).wins) = omega arith in
      let ties : (sum placed).ties + ((sum inside).ties + (sum outside).ties) ≡ (sum inside).ties + ((sum placed).ties + (sum outside).ties) = omega arith in
      let losses : (sum placed).losses + ((sum inside).losses + (sum outside).losses) ≡ (sum inside).losses + ((sum placed).losses + (sum outside).losses) = omega arith in
      rw (points, wins, ties, losses) refl

  -- The sums with the rows of one more match, which is inside the part or outside it.
  more_inside : (placed rows inside outside : List PlacedRow) → sum rows ≡ added_rows (sum inside) (sum outside) → sum (placed ++ rows) ≡ added_rows (sum (placed ++ inside)) (sum outside)
  more_inside placed rows inside outside e =
      sum_append placed rows ∙ ap (λ s. added_rows (sum placed) s) e ∙ sum_inside placed inside outside ∙ ap (λ s. added_rows s (sum outside)) (sym (sum_append placed inside))

  more_outside : (placed rows inside outside : List PlacedRow) → sum rows ≡ added_rows (sum inside) (sum outside) → sum (placed ++ rows) ≡ added_rows (sum inside) (sum (placed ++ outside))
  more_outside placed rows inside outside e =
      sum_append placed rows ∙ ap (λ s. added_rows (sum placed) s) e ∙ sum_outside placed inside outside ∙ ap (λ s. added_rows (sum inside) s) (sym (sum_append placed outside))

-- ---- A part of the pairs

given_by : {A B : Type 0} (r : Result A MatchFault) (f : A → Result B MatchFault) (b : B) → (r >>= f) ≡ Ok b → (a : A) × (r ≡ Ok a) × (f a ≡ Ok b)
given_by (Ok a) f b e = (a, refl, e)
given_by (Err x) f b e = absurd (cc)

ok_same : {A : Type 0} (x y : A) (r : Result A MatchFault) → r ≡ Ok x → r ≡ Ok y → x ≡ y
ok_same x y r e h = cc

module _ (p : Parameters) (f : Scanned) (fixed : Option ℕ) (n seed : ℕ) (is_in : Pair → Bool) where
  abbrev rows_for : List Pair → Result (List PlacedRow) MatchFault
  rows_for pairs = rows_of_pairs p f fixed n seed pairs

  one_more : (x : Pair) (xs : List Pair) (table : List RowValue) (rows : List PlacedRow) → table_of p (x.one ∷ x.other ∷ []) f fixed n seed ≡ Ok table → rows_for xs ≡ Ok rows
      → rows_for (x ∷ xs) ≡ Ok (placed_rows (x.first ∷ x.second ∷ []) table ++ rows)
  one_more x xs table rows e h = rw (e, h) refl

  kept : (test : Pair → Bool) (x : Pair) (xs : List Pair) → test x ≡ true → filter test (x ∷ xs) ≡ x ∷ filter test xs
  kept test x xs e = rw e refl

  dropped : (test : Pair → Bool) (x : Pair) (xs : List Pair) → test x ≡ false → filter test (x ∷ xs) ≡ filter test xs
  dropped test x xs e = rw e refl

  pub adds_up : (pairs : List Pair) (rows : List PlacedRow) → rows_for pairs ≡ Ok rows → AddsUp p f fixed n seed is_in pairs rows
  adds_up [] rows e = let none = ok_same [] rows (rows_for []) refl e in rw (← none) (record { inside = []; outside = []; inside_rows = refl; outside_rows = refl; sums = λ w i. refl })
  adds_up (x ∷ xs) rows e =
      let both = x.first ∷ x.second ∷ [] in
      let table = given_by (table_of p (x.one ∷ x.other ∷ []) f fixed n seed) (λ table. rows_for xs >>= λ others. Ok (placed_rows both table ++ others)) rows e in
      let others = given_by (rows_for xs) (λ others. Ok (placed_rows both table.0 ++ others)) rows table.2 in
      let same = ok_same (placed_rows both table.0 ++ others.0) rows _ refl others.2 in
      let rest = adds_up xs others.0 others.1 in
      let placed = placed_rows both table.0 in
      rw (← same) (elim (cases_Bool (is_in x)) [
        | inl within ↦
            let other : not (is_in x) ≡ false = rw within refl in
            record {
              inside = placed ++ rest.inside;
              outside = rest.outside;
              inside_rows = rw (kept is_in x xs within) (one_more x (filter is_in xs) table.0 rest.inside table.1 rest.inside_rows);
              outside_rows = rw (dropped (λ pair. not (is_in pair)) x xs other) rest.outside_rows;
              sums = λ w i. more_inside w i placed others.0 rest.inside rest.outside (rest.sums w i);
            }
        | inr without ↦
            let other : not (is_in x) ≡ true = rw without refl in
            record {
              inside = rest.inside;
              outside = placed ++ rest.outside;
              inside_rows = rw (dropped is_in x xs without) rest.inside_rows;
              outside_rows = rw (kept (λ pair. not (is_in pair)) x xs other) (one_more x (filter (λ pair. not (is_in pair)) xs) table.0 rest.outside table.1 rest.outside_rows);
              sums = λ w i. more_outside w i placed others.0 rest.inside rest.outside (rest.sums w i);
            }
      ])

-- ---- A new warrior

pairs_kept : (i j k : ℕ) (one newcomer : WarriorValue) (others : List WarriorValue) → k ≡ j + length others →
    filter (λ pair. not (is_of k pair)) (pairs_with i one j (others ++ newcomer ∷ [])) ≡ pairs_with i one j others
pairs_kept i j k one newcomer [] e = let same : nat_eq j k ≡ true = grind (arith, e) in rw same refl
pairs_kept i j k one newcomer (other ∷ others) e =
    let apart : nat_eq j k ≡ false = grind (arith, e) in
    rw apart (ap (λ pairs. record { first = i; second = j; one = one; other = other } ∷ pairs) (pairs_kept i (j + 1) k one newcomer others (omega (arith, e))))

newcomer_from : (i k : ℕ) (warriors : List WarriorValue) (newcomer : WarriorValue) → k ≡ i + length warriors →
    filter (λ pair. not (is_of k pair)) (all_pairs i (warriors ++ newcomer ∷ [])) ≡ all_pairs i warriors
newcomer_from i k [] newcomer e = refl
newcomer_from i k (one ∷ others) newcomer e =
    let next : k ≡ i + 1 + length others = omega (arith, e) in
    filter-append (λ pair. not (is_of k pair)) (pairs_with i one (i + 1) (others ++ newcomer ∷ [])) (all_pairs (i + 1) (others ++ newcomer ∷ []))
    ∙ rw (pairs_kept i (i + 1) k one newcomer others next, newcomer_from (i + 1) k others newcomer next) refl

pub newcomer_changes_nothing : (warriors : List WarriorValue) (newcomer : WarriorValue) →
    filter (λ pair. not (is_of (length warriors) pair)) (all_pairs 0 (warriors ++ newcomer ∷ [])) ≡ all_pairs 0 warriors
newcomer_changes_nothing warriors newcomer = newcomer_from 0 (length warriors) warriors newcomer (omega arith)
