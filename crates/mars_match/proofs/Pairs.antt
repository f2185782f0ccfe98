-- Leagues: one more match, and one more warrior.
use Rattle.std.proofs.Common.{◌≡◌, refl, sym, ◌∙◌, ap, ℕ, zero, suc, ◌+◌, ◌<◌, ◌≤◌, List, [], ◌∷◌, ◌++◌, length, drop, get_or, set, take, All, true, false, Option, Result, Ok, Err, arith}
use Rattle.std.proofs.lemmas.Int.{ints}
use Rattle.std.proofs.lemmas.List.{drop_more, length-set, get_or-set_other}
use Rattle.std.proofs.lemmas.List.Elements.{All-nil, All-cons, All-head, All-tail, All-get_or, All-set}
use Rattle.mars_cell.specs.Parameters.{Parameters}
use Rattle.mars_cell.specs.Warriors.{WarriorValue}
use Rattle.redcode_text.specs.Results.{◌>>=◌}
use Rattle.redcode_text.specs.Tokens.{Scanned}
use Rattle.redcode_text.specs.declared.fault.ExprFault.TheVariants.{Range}
use Rattle.mars_match.specs.Rounds.{table_of, checked_rows, fits_in_64}
use Rattle.mars_match.specs.Tables.{RowValue}
use Rattle.mars_match.specs.Code.Tallies.{IsOf, no_rounds, tallied, row_with, rows_with}
use Rattle.mars_match.specs.Leagues.{Pair, pairs_with, all_pairs, placed_rows}
use Rattle.mars_match.specs.Code.LeagueSteps.{pairs_of_first, joined, joined_at, with_rows, after_matches}
use Rattle.mars_match.specs.declared.fault.MatchFault.{MatchFault}
use Rattle.mars_match.specs.declared.fault.MatchFault.TheVariants.{Score}
use Rattle.mars_match.specs.declared.table.Tally.{Tally}
use Rattle.mars_match.proofs.Totals.{table_err, table_with}
use Rattle.mars_match.proofs.Outcomes.{unfit, fit}

-- ---- Bounds

pub IsOf-joined : (a b : ℕ) (t more : Tally) → IsOf a t → IsOf b more → IsOf (a + b) (joined t more)
IsOf-joined a b t more x y = record {
  low = omega (arith, ints, x.low, y.low);
  high = omega (arith, ints, x.high, y.high);
  wins = omega (arith, x.wins, y.wins);
  ties = omega (arith, x.ties, y.ties);
  losses = omega (arith, x.losses, y.losses);
}

pub IsOf-more : (a b : ℕ) (t : Tally) → a ≤ b → IsOf a t → IsOf b t
IsOf-more a b t h x = record {
  low = omega (arith, ints, x.low, h);
  high = omega (arith, ints, x.high, h);
  wins = omega (arith, x.wins, h);
  ties = omega (arith, x.ties, h);
  losses = omega (arith, x.losses, h);
}

pub all_more : (a b : ℕ) (xs : List Tally) → a ≤ b → All (IsOf a) xs → All (IsOf b) xs
all_more a b [] h all = All-nil (IsOf b)
all_more a b (t ∷ xs) h all = All-cons (IsOf b) t xs (IsOf-more a b t h (All-head (IsOf a) t xs all)) (all_more a b xs h (All-tail (IsOf a) t xs all))

-- ---- One match

pub joined_at-set : (i : ℕ) (xs : List Tally) (more d : Tally) → i < length xs → joined_at i more xs ≡ set xs i (joined (get_or xs i d) more)
joined_at-set i [] more d h = absurd (omega (arith, h))
joined_at-set zero (t ∷ xs) more d h = refl
joined_at-set (suc i) (t ∷ xs) more d h = ap (λ l. t ∷ l) (joined_at-set i xs more d (omega (arith, h)))

-- Setting the tallies of both warriors adds the match to them.
module _ (xs : List Tally) (i j : ℕ) (t u a b d : Tally) (before : i < j) (inside : j < length xs) (one : a ≡ joined (get_or xs i d) t) (other : b ≡ joined (get_or (set xs i a) j d) u) where
  pub set_both : set (set xs i a) j b ≡ joined_at j u (joined_at i t xs)
  set_both =
      let first : joined_at i t xs ≡ set xs i a = joined_at-set i xs t d (omega (arith, before, inside)) ∙ ap (set xs i) (sym one) in
      rw first (sym (joined_at-set j (set xs i a) u d (omega (arith, inside, length-set xs i a)) ∙ ap (set (set xs i a) j) (sym other)))

  other_stays : get_or (set xs i a) j d ≡ get_or xs j d
  other_stays = get_or-set_other xs i j a d (λ e. omega (arith, before, e))

  pub other_bound : (m : ℕ) → All (IsOf m) xs → IsOf m (get_or (set xs i a) j d)
  other_bound m all = rw other_stays (All-get_or (IsOf m) xs j d inside all)

  pub set_both_bounds : (m c : ℕ) → All (IsOf m) xs → IsOf c t → IsOf c u → All (IsOf (m + c)) (set (set xs i a) j b)
  set_both_bounds m c all x y =
      let first : IsOf (m + c) a = rw one (IsOf-joined m c (get_or xs i d) t (All-get_or (IsOf m) xs i d (omega (arith, before, inside)) all) x) in
      let second : IsOf (m + c) b = rw other (IsOf-joined m c (get_or (set xs i a) j d) u (other_bound m all) y) in
      All-set (IsOf (m + c)) (set xs i a) j b second (All-set (IsOf (m + c)) xs i a first (all_more m (m + c) xs (omega arith) all))

-- The pairs of the first of some warriors with each of the others.
abbrev pub pairs_left : ℕ → ℕ → List WarriorValue → List WarriorValue → List Pair
pairs_left i j [] others = []
pairs_left i j (one ∷ rest) others = pairs_with i one j others

no_warrior : WarriorValue
no_warrior = record { name = []; author = []; cells = []; start = 0 }

pub from_first : (ws : List WarriorValue) (i : ℕ) → i < length ws → pairs_left i (i + 1) (drop i ws) (drop (i + 1) ws) ≡ pairs_of_first i (drop i ws)
from_first ws i h = rw (drop_more ws i no_warrior h) refl

-- The list `ws` from warrior `i` on starts with warrior `i`, which is `a`.
pub from_one : (ws : List WarriorValue) (i : ℕ) (a : WarriorValue) → i < length ws → a ≡ get_or ws i a → drop i ws ≡ a ∷ drop (i + 1) ws
from_one ws i a h e = drop_more ws i a h ∙ ap (λ x. x ∷ drop (i + 1) ws) (sym e)

-- After the second warrior of the lineup is replaced by `b`, the lineup has warrior `i` and `b`.
pub lined_up : (ws before after : List WarriorValue) (i : ℕ) (a b : WarriorValue) → i < length ws → a ≡ get_or ws i a → take 1 before ≡ take 1 (drop i ws) → after ≡ take 1 before ++ b ∷ []
    → after ≡ a ∷ b ∷ []
lined_up ws before after i a b h e first replaced = replaced ∙ rw (first, from_one ws i a h e) refl

module _ (p : Parameters) (f : Scanned) (fixed : Option ℕ) (n seed : ℕ) where
  pub match_err : (ws : List WarriorValue) (i j : ℕ) (a b : WarriorValue) (ts : List Tally) (x : MatchFault) → i < length ws → j < length ws → a ≡ get_or ws i a → b ≡ get_or ws j b →
      table_of p (a ∷ b ∷ []) f fixed n seed ≡ Err x → after_matches p f fixed n seed (pairs_left i j (drop i ws) (drop j ws)) ts ≡ Err x
  match_err ws i j a b ts x hi hj ea eb e = rw (from_one ws i a hi ea, from_one ws j b hj eb, e) refl

  pub match_more : (ws : List WarriorValue) (i j : ℕ) (a b : WarriorValue) (ts : List Tally) (t u : Tally) → i < length ws → j < length ws → a ≡ get_or ws i a → b ≡ get_or ws j b →
      table_of p (a ∷ b ∷ []) f fixed n seed ≡ Ok (row_with a t ∷ row_with b u ∷ []) →
      after_matches p f fixed n seed (pairs_left i (j + 1) (drop i ws) (drop (j + 1) ws)) (joined_at j u (joined_at i t ts)) ≡ after_matches p f fixed n seed (pairs_left i j (drop i ws) (drop j ws)) ts
  match_more ws i j a b ts t u hi hj ea eb e = rw (from_one ws i a hi ea, from_one ws j b hj eb, e) refl

  -- ---- One warrior

  joined_after : (table : Result (List RowValue) MatchFault) (x : Pair) (xs ys : List Pair) (ts : List Tally) →
      ((us : List Tally) → after_matches p f fixed n seed (xs ++ ys) us ≡ (after_matches p f fixed n seed xs us >>= λ us. after_matches p f fixed n seed ys us)) →
      (table >>= λ rows. after_matches p f fixed n seed (xs ++ ys) (with_rows (placed_rows (x.first ∷ x.second ∷ []) rows) ts)) ≡ ((table >>= λ rows. after_matches p f fixed n seed xs (with_rows (placed_rows (x.first ∷ x.second ∷ []) rows) ts)) >>= λ us. after_matches p f fixed n seed ys us)
  joined_after (Ok rows) x xs ys ts h = h (with_rows (placed_rows (x.first ∷ x.second ∷ []) rows) ts)
  joined_after (Err e) x xs ys ts h = refl

  after-append : (xs ys : List Pair) (ts : List Tally) → after_matches p f fixed n seed (xs ++ ys) ts ≡ (after_matches p f fixed n seed xs ts >>= λ us. after_matches p f fixed n seed ys us)
  after-append [] ys ts = refl
  after-append (x ∷ xs) ys ts = joined_after (table_of p (x.one ∷ x.other ∷ []) f fixed n seed) x xs ys ts (after-append xs ys)

  all_split : (ws : List WarriorValue) (i : ℕ) (ts : List Tally) → i < length ws →
      after_matches p f fixed n seed (all_pairs i (drop i ws)) ts ≡ (after_matches p f fixed n seed (pairs_of_first i (drop i ws)) ts >>= λ ts. after_matches p f fixed n seed (all_pairs (i + 1) (drop (i + 1) ws)) ts)
  all_split ws i ts h = rw (drop_more ws i no_warrior h) (after-append (pairs_with i (get_or ws i no_warrior) (i + 1) (drop (i + 1) ws)) (all_pairs (i + 1) (drop (i + 1) ws)) ts)

  pub first_err : (ws : List WarriorValue) (i : ℕ) (ts : List Tally) (x : MatchFault) → i < length ws →
      after_matches p f fixed n seed (pairs_of_first i (drop i ws)) ts ≡ Err x → after_matches p f fixed n seed (all_pairs i (drop i ws)) ts ≡ Err x
  first_err ws i ts x h e = all_split ws i ts h ∙ rw e refl

  pub first_more : (ws : List WarriorValue) (i : ℕ) (ts us : List Tally) → i < length ws →
      after_matches p f fixed n seed (pairs_of_first i (drop i ws)) ts ≡ Ok us → after_matches p f fixed n seed (all_pairs (i + 1) (drop (i + 1) ws)) us ≡ after_matches p f fixed n seed (all_pairs i (drop i ws)) ts
  first_more ws i ts us h e = sym (all_split ws i ts h ∙ rw e refl)

-- ---- The tallies of two warriors

pub two_tallies : (ts : List Tally) (d : Tally) → length ts ≡ 2 → ts ≡ get_or ts 0 d ∷ get_or ts 1 d ∷ []
two_tallies [] d e = absurd (omega (arith, e))
two_tallies (t ∷ []) d e = absurd (omega (arith, e))
two_tallies (t ∷ (u ∷ [])) d e = refl
two_tallies (t ∷ (u ∷ (v ∷ ts))) d e = absurd (omega (arith, e))

-- The table of a match of two warriors, from its tallies.
module _ (p : Parameters) (a b : WarriorValue) (f : Scanned) (fixed : Option ℕ) (n seed : ℕ) where
  pub pair_err : (x : MatchFault) → tallied p (a ∷ b ∷ []) f fixed n 0 seed (no_rounds ∷ no_rounds ∷ []) ≡ Err x → table_of p (a ∷ b ∷ []) f fixed n seed ≡ Err x
  pair_err x e = table_err p (a ∷ b ∷ []) f fixed n seed x refl e

  pair_table : (ts : List Tally) (d : Tally) → length ts ≡ 2 → tallied p (a ∷ b ∷ []) f fixed n 0 seed (no_rounds ∷ no_rounds ∷ []) ≡ Ok ts →
      table_of p (a ∷ b ∷ []) f fixed n seed ≡ checked_rows (row_with a (get_or ts 0 d) ∷ row_with b (get_or ts 1 d) ∷ [])
  pair_table ts d two e = table_with p (a ∷ b ∷ []) f fixed n seed ts refl e ∙ ap (λ ts. checked_rows (rows_with (a ∷ b ∷ []) ts)) (two_tallies ts d two)

  pub first_unfit : (ts : List Tally) (d : Tally) → length ts ≡ 2 → tallied p (a ∷ b ∷ []) f fixed n 0 seed (no_rounds ∷ no_rounds ∷ []) ≡ Ok ts →
      fits_in_64 (get_or ts 0 d).points ≡ false → table_of p (a ∷ b ∷ []) f fixed n seed ≡ Err (Score Range)
  first_unfit ts d two e bad = pair_table ts d two e ∙ unfit (row_with a (get_or ts 0 d) ∷ row_with b (get_or ts 1 d) ∷ []) 0 (row_with a d) (omega arith) bad

  pub second_unfit : (ts : List Tally) (d : Tally) → length ts ≡ 2 → tallied p (a ∷ b ∷ []) f fixed n 0 seed (no_rounds ∷ no_rounds ∷ []) ≡ Ok ts →
      fits_in_64 (get_or ts 1 d).points ≡ false → table_of p (a ∷ b ∷ []) f fixed n seed ≡ Err (Score Range)
  second_unfit ts d two e bad = pair_table ts d two e ∙ unfit (row_with a (get_or ts 0 d) ∷ row_with b (get_or ts 1 d) ∷ []) 1 (row_with a d) (omega arith) bad

  pub both_fit : (ts : List Tally) (d : Tally) → length ts ≡ 2 → tallied p (a ∷ b ∷ []) f fixed n 0 seed (no_rounds ∷ no_rounds ∷ []) ≡ Ok ts →
      fits_in_64 (get_or ts 0 d).points ≡ true → fits_in_64 (get_or ts 1 d).points ≡ true →
      table_of p (a ∷ b ∷ []) f fixed n seed ≡ Ok (row_with a (get_or ts 0 d) ∷ row_with b (get_or ts 1 d) ∷ [])
  both_fit ts d two e one other = pair_table ts d two e ∙ fit _ (rw (one, other) refl)
