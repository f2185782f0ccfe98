-- The tallies of all matches are the sums over each warrior's rows. The definition lists all pairs, plays the match of
-- each, and sums up each warrior's rows. Only the proof uses the tallies after some matches of the list. The invariant
-- of both loops has `after_matches` of the remaining pairs, from `drop i` and `drop j`. The bounds are linear in both
-- counters, so `omega` proves them.
use Rattle.std.proofs.Common.{◌≡◌, refl, sym, ◌∙◌, ap, ℕ, zero, suc, ◌+◌, ◌<◌, ◌+ℤ◌, List, [], ◌∷◌, ◌++◌, length, replicate, Option, true, false, nat_eq, Result, Ok, Err, arith}
use Rattle.std.specs.Prelude.{sum_by}
use Rattle.std.proofs.lemmas.Int.{ints}
use Rattle.std.proofs.lemmas.List.Sums.{sum_by-cons}
use Rattle.mars_cell.specs.Parameters.{Parameters}
use Rattle.mars_cell.specs.Warriors.{WarriorValue}
use Rattle.redcode_text.specs.Results.{◌>>=◌}
use Rattle.redcode_text.specs.Tokens.{Scanned}
use Rattle.mars_match.specs.Rounds.{table_of, checked_rows}
use Rattle.mars_match.specs.Tables.{RowValue}
use Rattle.mars_match.specs.Code.Tallies.{no_rounds, row_with, rows_with}
use Rattle.mars_match.specs.Leagues.{Pair, PlacedRow, placed_rows, rows_of_pairs, all_pairs, own_rows, all_points, sum_of_rows, sums_from, league_of}
use Rattle.mars_match.specs.Code.LeagueSteps.{joined, sums, joined_at, with_rows, after_matches}
use Rattle.mars_match.specs.declared.fault.MatchFault.{MatchFault}
use Rattle.mars_match.specs.declared.table.Tally.{Tally}
use Rattle.mars_match.proofs.Totals.{same_tally}

-- ---- The matches one after another

with_rows-append : (xs ys : List PlacedRow) (tallies : List Tally) → with_rows (xs ++ ys) tallies ≡ with_rows ys (with_rows xs tallies)
with_rows-append [] ys tallies = refl
with_rows-append (x ∷ xs) ys tallies = with_rows-append xs ys (joined_at x.place (sums x.row) tallies)

others_after : (others : Result (List PlacedRow) MatchFault) (rows : List PlacedRow) (tallies : List Tally) →
    (others >>= λ ys. Ok (with_rows ys (with_rows rows tallies))) ≡ ((others >>= λ ys. Ok (rows ++ ys)) >>= λ all. Ok (with_rows all tallies))
others_after (Ok ys) rows tallies = ap Ok (sym (with_rows-append rows ys tallies))
others_after (Err e) rows tallies = refl

table_first : (table : Result (List RowValue) MatchFault) (place : List RowValue → List PlacedRow) (others : Result (List PlacedRow) MatchFault) (after : List Tally → Result (List Tally) MatchFault) (tallies : List Tally) →
    ((ts : List Tally) → after ts ≡ (others >>= λ ys. Ok (with_rows ys ts))) →
    (table >>= λ rows. after (with_rows (place rows) tallies)) ≡ ((table >>= λ rows. others >>= λ ys. Ok (place rows ++ ys)) >>= λ all. Ok (with_rows all tallies))
table_first (Ok rows) place others after tallies h = h (with_rows (place rows) tallies) ∙ others_after others (place rows) tallies
table_first (Err e) place others after tallies h = refl

after_is : (p : Parameters) (f : Scanned) (fixed : Option ℕ) (n seed : ℕ) (pairs : List Pair) (tallies : List Tally) →
    after_matches p f fixed n seed pairs tallies ≡ (rows_of_pairs p f fixed n seed pairs >>= λ rows. Ok (with_rows rows tallies))
after_is p f fixed n seed [] tallies = refl
after_is p f fixed n seed (x ∷ xs) tallies =
    table_first (table_of p (x.one ∷ x.other ∷ []) f fixed n seed) (placed_rows (x.first ∷ x.second ∷ [])) (rows_of_pairs p f fixed n seed xs) (after_matches p f fixed n seed xs) tallies (after_is p f fixed n seed xs)

-- ---- One warrior

-- A tally with rows added.
with_own : List RowValue → Tally → Tally
with_own [] t = t
with_own (row ∷ rows) t = with_own rows (joined t (sums row))

-- The tallies from warrior `i` on, each with the rows of its warrior added.
all_own : ℕ → List PlacedRow → List Tally → List Tally
all_own i rows [] = []
all_own i rows (t ∷ tallies) = with_own (own_rows i rows) t ∷ all_own (i + 1) rows tallies

all_own-none : (i : ℕ) (tallies : List Tally) → all_own i [] tallies ≡ tallies
unfolding all_own with_own
all_own-none i [] = refl
all_own-none i (t ∷ tallies) = ap (λ l. t ∷ l) (all_own-none (i + 1) tallies)

-- A row of a warrior before warrior `i` changes none of these tallies.
all_own-before : (i : ℕ) (x : PlacedRow) (rows : List PlacedRow) (tallies : List Tally) → x.place < i → all_own i (x ∷ rows) tallies ≡ all_own i rows tallies
unfolding all_own
all_own-before i x rows [] h = refl
all_own-before i x rows (t ∷ tallies) h =
    let test : nat_eq x.place i ≡ false = grind (arith, h) in
    rw (test, all_own-before (i + 1) x rows tallies (omega (arith, h))) refl

all_own-one : (i k : ℕ) (x : PlacedRow) (rows : List PlacedRow) (tallies : List Tally) → x.place ≡ i + k → all_own i (x ∷ rows) tallies ≡ all_own i rows (joined_at k (sums x.row) tallies)
unfolding all_own with_own
all_own-one i k x rows [] e = refl
all_own-one i zero x rows (t ∷ tallies) e =
    let test : nat_eq x.place i ≡ true = grind (arith, e) in
    rw (test, all_own-before (i + 1) x rows tallies (omega (arith, e))) refl
all_own-one i (suc k) x rows (t ∷ tallies) e =
    let test : nat_eq x.place i ≡ false = grind (arith, e) in
    rw (test, all_own-one (i + 1) k x rows tallies (omega (arith, e))) refl

with_rows_is : (rows : List PlacedRow) (tallies : List Tally) → with_rows rows tallies ≡ all_own 0 rows tallies
with_rows_is [] tallies = sym (all_own-none 0 tallies)
with_rows_is (x ∷ rows) tallies = with_rows_is rows (joined_at x.place (sums x.row) tallies) ∙ sym (all_own-one 0 x.place x rows tallies (omega arith))

-- ---- The sums

tally_with : List RowValue → Tally → Tally
tally_with rows t = record {
  points = t.points +ℤ all_points rows;
  wins = t.wins + sum_by (λ row. row.wins) rows;
  ties = t.ties + sum_by (λ row. row.ties) rows;
  losses = t.losses + sum_by (λ row. row.losses) rows;
}

with_own_is : (rows : List RowValue) (t : Tally) → with_own rows t ≡ tally_with rows t
unfolding with_own tally_with
with_own_is [] t = same_tally t _ (omega (arith, ints)) (omega arith) (omega arith) (omega arith)
with_own_is (row ∷ rows) t = with_own_is rows (joined t (sums row)) ∙ same_tally _ _
    (omega (arith, ints))
    (omega (arith, sum_by-cons (λ (row : RowValue). row.wins) row rows))
    (omega (arith, sum_by-cons (λ (row : RowValue). row.ties) row rows))
    (omega (arith, sum_by-cons (λ (row : RowValue). row.losses) row rows))

row_is : (w : WarriorValue) (rows : List RowValue) → row_with w (with_own rows no_rounds) ≡ sum_of_rows w rows
unfolding tally_with
row_is w rows =
    let own : tally_with rows no_rounds ≡ record { points = all_points rows; wins = sum_by (λ row. row.wins) rows; ties = sum_by (λ row. row.ties) rows; losses = sum_by (λ row. row.losses) rows } =
    same_tally _ _ (omega (arith, ints)) (omega arith) (omega arith) (omega arith) in
    ap (row_with w) (with_own_is rows no_rounds ∙ own)

rows_are : (i : ℕ) (warriors : List WarriorValue) (rows : List PlacedRow) → rows_with warriors (all_own i rows (replicate (length warriors) no_rounds)) ≡ sums_from i warriors rows
unfolding all_own
rows_are i [] rows = refl
rows_are i (w ∷ warriors) rows = rw (row_is w (own_rows i rows), rows_are (i + 1) warriors rows) refl

-- ---- The league

module _ (p : Parameters) (warriors : List WarriorValue) (f : Scanned) (fixed : Option ℕ) (n seed : ℕ) where
  rows_after : (all : Result (List PlacedRow) MatchFault) →
      ((all >>= λ rows. Ok (with_rows rows (replicate (length warriors) no_rounds))) >>= λ tallies. checked_rows (rows_with warriors tallies)) ≡ (all >>= λ rows. checked_rows (sums_from 0 warriors rows))
  rows_after (Ok rows) = rw (with_rows_is rows (replicate (length warriors) no_rounds), rows_are 0 warriors rows) refl
  rows_after (Err e) = refl

  -- The table of a league, from the tallies of the code.
  pub league_from : league_of p warriors f fixed n seed ≡ (after_matches p f fixed n seed (all_pairs 0 warriors) (replicate (length warriors) no_rounds) >>= λ tallies. checked_rows (rows_with warriors tallies))
  unfolding league_of
  league_from = sym (rw (after_is p f fixed n seed (all_pairs 0 warriors) (replicate (length warriors) no_rounds)) (rows_after (rows_of_pairs p f fixed n seed (all_pairs 0 warriors))))

  pub league_err : (x : MatchFault) → after_matches p f fixed n seed (all_pairs 0 warriors) (replicate (length warriors) no_rounds) ≡ Err x → league_of p warriors f fixed n seed ≡ Err x
  league_err x e = league_from ∙ rw e refl

  pub league_with : (ts : List Tally) → after_matches p f fixed n seed (all_pairs 0 warriors) (replicate (length warriors) no_rounds) ≡ Ok ts → league_of p warriors f fixed n seed ≡ checked_rows (rows_with warriors ts)
  league_with ts e = league_from ∙ rw e refl
