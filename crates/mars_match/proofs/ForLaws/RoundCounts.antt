-- The wins, ties and losses of a warrior add up to the rounds in which it took part.
use Rattle.std.proofs.Common.{◌≡◌, refl, sym, ◌∙◌, ap, ℕ, zero, suc, ◌+◌, ◌*◌, ◌-◌, ◌<◌, ◌≤◌, Bool, true, false, cond, nat_eq, List, [], ◌∷◌, ◌++◌, length, inl, inr, Option, None, Some, Result, Ok, Err, All, arith}
use Rattle.std.specs.Prelude.{count_by, not, ◌&&◌, ◌==◌, if◌then◌else◌}
use Rattle.std.specs.List.{list_all}
use Rattle.std.proofs.lemmas.Bool.{cases_Bool}
use Rattle.std.proofs.lemmas.List.Elements.{All-nil, All-cons}
use Rattle.std.proofs.lemmas.List.Sums.{sum_by-cons}
use Rattle.mars_cell.specs.Parameters.{Parameters}
use Rattle.mars_cell.specs.Warriors.{WarriorValue}
use Rattle.redcode_text.specs.Results.{◌>>=◌}
use Rattle.redcode_text.specs.Tokens.{Scanned}
use Rattle.mars_core.specs.declared.battle.start.BattleFault.{BattleFault}
use Rattle.mars_match.specs.Battles.{count_fault}
use Rattle.mars_match.specs.Rounds.{Outcome, outcomes, how_many, has_lived, has_won, has_tied, has_lost, rows_from, row_of, fits_in_64, checked_rows, counted, placed_for, round_outcome, table_of}
use Rattle.mars_match.specs.Tables.{RowValue}
use Rattle.mars_match.specs.Leagues.{Pair, PlacedRow, pairs_with, all_pairs, placed_rows, rows_of_pairs, own_rows, sum_of_rows, sums_from, league_of}
use Rattle.mars_match.specs.Laws.{rounds_of}
use Rattle.mars_match.specs.declared.fault.MatchFault.{MatchFault}

-- ---- A match

-- Each round is a win, a tie or a loss.
one_of : (lived alone : Bool) → cond (lived && alone) 1 0 + cond (lived && not alone) 1 0 + cond (not lived) 1 0 ≡ 1
one_of true true = refl
one_of true false = refl
one_of false alone = refl

counts : (i : ℕ) (outcomes : List Outcome) → count_by (has_won i) outcomes + count_by (has_tied i) outcomes + count_by (has_lost i) outcomes ≡ length outcomes
counts i [] = refl
counts i (o ∷ os) = omega (
  arith,
  counts i os,
  one_of (has_lived i o) (nat_eq (how_many o.lived) 1),
  sum_by-cons (λ o. cond (has_won i o) 1 0) o os,
  sum_by-cons (λ o. cond (has_tied i o) 1 0) o os,
  sum_by-cons (λ o. cond (has_lost i o) 1 0) o os,
)

-- If a step and the step that uses its value succeed, the first step has a value with which the second one succeeds.
given_by : {A B : Type 0} (r : Result A MatchFault) (f : A → Result B MatchFault) (b : B) → (r >>= f) ≡ Ok b → (a : A) × (r ≡ Ok a) × (f a ≡ Ok b)
given_by (Ok a) f b e = (a, refl, e)
given_by (Err x) f b e = absurd (cc)

counted_is : {A : Type 0} (o : Option BattleFault) (r : Result A MatchFault) (a : A) → counted o r ≡ Ok a → r ≡ Ok a
counted_is None r a e = e
counted_is (Some x) r a e = absurd (cc)

checked_are : (rows checked : List RowValue) → checked_rows rows ≡ Ok checked → rows ≡ checked
checked_are rows checked e = elim (cases_Bool (list_all (λ row. fits_in_64 row.points) rows)) [
  | inl fit ↦ let same = rw fit at e in cc
  | inr none ↦ let bad = rw none at e in absurd (cc)
]

as_many : (p : Parameters) (warriors : List WarriorValue) (f : Scanned) (fixed : Option ℕ) (n k seed : ℕ) (all : List Outcome) →
    outcomes p warriors f fixed n k seed ≡ Ok all → length all ≡ n
as_many p warriors f fixed zero k seed all e = let same : [] ≡ all = cc in ap length (sym same)
as_many p warriors f fixed (suc n) k seed all e =
    let behind : Outcome → List Outcome → Result (List Outcome) MatchFault = λ o others. Ok (o ∷ others) in
    let placed = given_by (placed_for p (length warriors) fixed seed) (λ l. round_outcome p warriors f l.0 k >>= λ o. outcomes p warriors f fixed n (k + 1) l.1 >>= behind o) all e in
    let one = given_by (round_outcome p warriors f placed.0.0 k) (λ o. outcomes p warriors f fixed n (k + 1) placed.0.1 >>= behind o) all placed.2 in
    let others = given_by (outcomes p warriors f fixed n (k + 1) placed.0.1) (behind one.0) all one.2 in
    let same : one.0 ∷ others.0 ≡ all = cc in
    rw (← same) (omega (arith, as_many p warriors f fixed n (k + 1) placed.0.1 others.0 others.1))

rows_count : (i : ℕ) (warriors : List WarriorValue) (all : List Outcome) → All (λ row. rounds_of row ≡ length all) (rows_from i warriors all)
rows_count i [] all = All-nil (λ row. rounds_of row ≡ length all)
rows_count i (w ∷ ws) all = All-cons (λ row. rounds_of row ≡ length all) (row_of w i all) (rows_from (i + 1) ws all) (counts i all) (rows_count (i + 1) ws all)

-- The rows of a table are those of `n` outcomes.
table_rows : (p : Parameters) (warriors : List WarriorValue) (f : Scanned) (fixed : Option ℕ) (n seed : ℕ) (rows : List RowValue) →
    table_of p warriors f fixed n seed ≡ Ok rows → (all : List Outcome) × (length all ≡ n) × (rows_from 0 warriors all ≡ rows)
unfolding table_of
table_rows p warriors f fixed n seed rows e =
    let ended = outcomes p warriors f fixed n 0 seed in
    let all = given_by ended (λ all. checked_rows (rows_from 0 warriors all)) rows (counted_is (count_fault (length warriors)) (ended >>= λ all. checked_rows (rows_from 0 warriors all)) rows e) in
    (all.0, as_many p warriors f fixed n 0 seed all.0 all.1, checked_are (rows_from 0 warriors all.0) rows all.2)

pub each_round : (p : Parameters) (warriors : List WarriorValue) (f : Scanned) (fixed : Option ℕ) (n seed : ℕ) (rows : List RowValue) →
    table_of p warriors f fixed n seed ≡ Ok rows → All (λ row. rounds_of row ≡ n) rows
each_round p warriors f fixed n seed rows e =
    let t = table_rows p warriors f fixed n seed rows e in
    rw t.1 at (rw t.2 at (rows_count 0 warriors t.0))

-- ---- A league

-- The number of rounds that the rows of warrior `i` count.
played : ℕ → List PlacedRow → ℕ
played i [] = 0
played i (x ∷ xs) = (if x.place == i then rounds_of x.row else 0) + played i xs

-- The number of matches of warrior `i` among pairs.
matches : ℕ → List Pair → ℕ
matches i [] = 0
matches i (x ∷ xs) = (if x.first == i then 1 else 0) + (if x.second == i then 1 else 0) + matches i xs

played-append : (i : ℕ) (xs ys : List PlacedRow) → played i (xs ++ ys) ≡ played i xs + played i ys
unfolding played
played-append i [] ys = omega arith
played-append i (x ∷ xs) ys = omega (arith, played-append i xs ys)

matches-append : (i : ℕ) (xs ys : List Pair) → matches i (xs ++ ys) ≡ matches i xs + matches i ys
unfolding matches
matches-append i [] ys = omega arith
matches-append i (x ∷ xs) ys = omega (arith, matches-append i xs ys)

sum_is : (w : WarriorValue) (i : ℕ) (rows : List PlacedRow) → rounds_of (sum_of_rows w (own_rows i rows)) ≡ played i rows
unfolding played
sum_is w i [] = refl
sum_is w i (x ∷ xs) = elim (cases_Bool (nat_eq x.place i)) [
  | inl own ↦ rw own (omega (
    arith,
    sum_is w i xs,
    sum_by-cons (λ (row : RowValue). row.wins) x.row (own_rows i xs),
    sum_by-cons (λ (row : RowValue). row.ties) x.row (own_rows i xs),
    sum_by-cons (λ (row : RowValue). row.losses) x.row (own_rows i xs),
  ))
  | inr other ↦ rw other (omega (arith, sum_is w i xs))
]

-- The rows of a pair count the rounds of its match.
pair_played : (i n : ℕ) (x : Pair) (a b : RowValue) → rounds_of a ≡ n → rounds_of b ≡ n →
    played i (placed_rows (x.first ∷ x.second ∷ []) (a ∷ b ∷ [])) ≡ n * ((if x.first == i then 1 else 0) + (if x.second == i then 1 else 0))
unfolding played
pair_played i n x a b ea eb = elim (cases_Bool (nat_eq x.first i)) [
  | inl f ↦ elim (cases_Bool (nat_eq x.second i)) [
    | inl s ↦ rw (f, s) (omega (arith, ea, eb))
    | inr s ↦ rw (f, s) (omega (arith, ea, eb))
  ]
  | inr f ↦ elim (cases_Bool (nat_eq x.second i)) [
    | inl s ↦ rw (f, s) (omega (arith, ea, eb))
    | inr s ↦ rw (f, s) (omega (arith, ea, eb))
  ]
]

module _ (p : Parameters) (f : Scanned) (fixed : Option ℕ) (n seed : ℕ) where
  all_played : (i : ℕ) (pairs : List Pair) (rows : List PlacedRow) → rows_of_pairs p f fixed n seed pairs ≡ Ok rows → played i rows ≡ n * matches i pairs
  unfolding played matches
  all_played i [] rows e = let same : [] ≡ rows = cc in rw (← same) (omega arith)
  all_played i (x ∷ xs) rows e =
      let placed = λ (table : List RowValue). placed_rows (x.first ∷ x.second ∷ []) table in
      let rest = rows_of_pairs p f fixed n seed xs in
      let table = given_by (table_of p (x.one ∷ x.other ∷ []) f fixed n seed) (λ t. rest >>= λ others. Ok (placed t ++ others)) rows e in
      let others = given_by rest (λ others. Ok (placed table.0 ++ others)) rows table.2 in
      let ended = table_rows p (x.one ∷ x.other ∷ []) f fixed n seed table.0 table.1 in
      let a = row_of x.one 0 ended.0 in
      let b = row_of x.other (0 + 1) ended.0 in
      let same : placed_rows (x.first ∷ x.second ∷ []) (a ∷ b ∷ []) ++ others.0 ≡ rows = cc in
      rw (← same) (omega (
        arith,
        played-append i (placed_rows (x.first ∷ x.second ∷ []) (a ∷ b ∷ [])) others.0,
        pair_played i n x a b (counts 0 ended.0 ∙ ended.1) (counts (0 + 1) ended.0 ∙ ended.1),
        all_played i xs others.0 others.1,
      ))

-- ---- The number of matches

before_none : (i k : ℕ) (w : WarriorValue) (j : ℕ) (ws : List WarriorValue) → i < j → i < k → matches i (pairs_with k w j ws) ≡ 0
unfolding matches
before_none i k w j [] h g = refl
before_none i k w j (x ∷ xs) h g =
    let second : nat_eq j i ≡ false = grind (arith, h) in
    let first : nat_eq k i ≡ false = grind (arith, g) in
    rw (first, second) (omega (arith, before_none i k w (j + 1) xs (omega (arith, h)) g))

-- Warrior `i` plays one match with each of the warriors `ws` after it.
own_matches : (i : ℕ) (w : WarriorValue) (j : ℕ) (ws : List WarriorValue) → i < j → matches i (pairs_with i w j ws) ≡ length ws
unfolding matches
own_matches i w j [] h = refl
own_matches i w j (x ∷ xs) h =
    let second : nat_eq j i ≡ false = grind (arith, h) in
    let first : nat_eq i i ≡ true = grind arith in
    rw (first, second) (omega (arith, own_matches i w (j + 1) xs (omega (arith, h))))

behind_none : (i k : ℕ) (w : WarriorValue) (j : ℕ) (ws : List WarriorValue) → k < j → i < j → k < i → matches i (pairs_with k w j ws) ≡ 0
unfolding matches
behind_none i k w j [] h g l = refl
behind_none i k w j (x ∷ xs) h g l =
    let second : nat_eq j i ≡ false = grind (arith, g) in
    let first : nat_eq k i ≡ false = grind (arith, l) in
    rw (first, second) (omega (arith, behind_none i k w (j + 1) xs (omega (arith, h)) (omega (arith, g)) l))

-- Warrior `i`, one of the warriors `ws`, plays one match with warrior `k` before them.
met_once : (i k : ℕ) (w : WarriorValue) (j : ℕ) (ws : List WarriorValue) → k < j → j ≤ i → i < j + length ws → matches i (pairs_with k w j ws) ≡ 1
unfolding matches
met_once i k w j [] h g l = absurd (omega (arith, g, l))
met_once i k w j (x ∷ xs) h g l =
    let first : nat_eq k i ≡ false = grind (arith, h, g) in
    elim (cases_Bool (nat_eq j i)) [
      | inl same ↦
          let is : j ≡ i = grind (arith, same) in
          rw (first, same) (omega (arith, behind_none i k w (j + 1) xs (omega (arith, h)) (omega (arith, is)) (omega (arith, h, is))))
      | inr other ↦
          let apart : j + 1 ≤ i = grind (arith, other, g) in
          rw (first, other) (omega (arith, met_once i k w (j + 1) xs (omega (arith, h)) apart (omega (arith, l))))
    ]

none_before : (i k : ℕ) (ws : List WarriorValue) → i < k → matches i (all_pairs k ws) ≡ 0
unfolding matches
none_before i k [] h = refl
none_before i k (w ∷ ws) h = omega (arith, matches-append i (pairs_with k w (k + 1) ws) (all_pairs (k + 1) ws), before_none i k w (k + 1) ws (omega (arith, h)) h, none_before i (k + 1) ws (omega (arith, h)))

meets_all : (i k : ℕ) (ws : List WarriorValue) → k ≤ i → i < k + length ws → matches i (all_pairs k ws) + 1 ≡ length ws
unfolding matches
meets_all i k [] h l = absurd (omega (arith, h, l))
meets_all i k (w ∷ ws) h l = elim (cases_Bool (nat_eq k i)) [
  | inl same ↦
      let is : k ≡ i = grind (arith, same) in
      rw is (omega (arith, matches-append i (pairs_with i w (i + 1) ws) (all_pairs (i + 1) ws), own_matches i w (i + 1) ws (omega arith), none_before i (i + 1) ws (omega arith)))
  | inr other ↦
      let apart : k + 1 ≤ i = grind (arith, other, h) in
      omega (arith, matches-append i (pairs_with k w (k + 1) ws) (all_pairs (k + 1) ws), met_once i k w (k + 1) ws (omega arith) apart (omega (arith, l)), meets_all i (k + 1) ws apart (omega (arith, l)))
]

-- ---- All rows

sums_count : (m : ℕ) (rows : List PlacedRow) (i : ℕ) (ws : List WarriorValue) → ((j : ℕ) → i ≤ j → j < i + length ws → played j rows ≡ m) → All (λ row. rounds_of row ≡ m) (sums_from i ws rows)
sums_count m rows i [] each = All-nil (λ row. rounds_of row ≡ m)
sums_count m rows i (w ∷ ws) each = All-cons (λ row. rounds_of row ≡ m) (sum_of_rows w (own_rows i rows)) (sums_from (i + 1) ws rows)
    (sum_is w i rows ∙ each i (omega arith) (omega arith)) (sums_count m rows (i + 1) ws (λ j h l. each j (omega (arith, h)) (omega (arith, l))))

pub each_match : (p : Parameters) (warriors : List WarriorValue) (f : Scanned) (fixed : Option ℕ) (n seed : ℕ) (rows : List RowValue) →
    league_of p warriors f fixed n seed ≡ Ok rows → All (λ row. rounds_of row ≡ n * (length warriors - 1)) rows
unfolding league_of
each_match p warriors f fixed n seed rows e =
    let placed = given_by (rows_of_pairs p f fixed n seed (all_pairs 0 warriors)) (λ placed. checked_rows (sums_from 0 warriors placed)) rows e in
    let all = sums_count (n * (length warriors - 1)) placed.0 0 warriors (λ j h l.
    let others : matches j (all_pairs 0 warriors) ≡ length warriors - 1 = omega (arith, meets_all j 0 warriors h l) in
    all_played p f fixed n seed j (all_pairs 0 warriors) placed.0 placed.1 ∙ ap (λ m. n * m) others) in
    rw (checked_are (sums_from 0 warriors placed.0) rows placed.2) at all
