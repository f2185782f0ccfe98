-- The tallies of all rounds are the sums over the rounds. The definition has a list of rounds, and a sum for each
-- warrior; the code adds each round when it is over. The invariant of its loop says that the remaining rounds lead to the
-- tallies of all rounds. That these are the sums is proved here, independent of the code.
use Rattle.std.proofs.Common.{◌≡◌, refl, sym, ◌∙◌, ap, ℕ, zero, suc, ◌+◌, ℤ, ◌+ℤ◌, cond, List, [], ◌∷◌, length, replicate, Option, Some, None, Result, Ok, Err, arith}
use Rattle.std.specs.Prelude.{count_by, MatchOption, IsOk}
use Rattle.std.proofs.lemmas.Int.{ints}
use Rattle.std.proofs.lemmas.List.Sums.{sum_by-cons}
use Rattle.mars_cell.specs.Parameters.{Parameters}
use Rattle.mars_cell.specs.Warriors.{WarriorValue}
use Rattle.redcode_text.specs.Results.{◌>>=◌}
use Rattle.redcode_text.specs.Tokens.{Scanned}
use Rattle.mars_match.specs.Rounds.{Outcome, placed_for, round_outcome, outcomes, has_won, has_tied, has_lost, points_of, row_of, rows_from, checked_rows, table_of}
use Rattle.mars_match.specs.Code.Tallies.{no_rounds, added, all_added, tallied, row_with, rows_with}
use Rattle.mars_core.specs.declared.battle.start.BattleFault.{BattleFault}
use Rattle.mars_match.specs.Battles.{count_fault}
use Rattle.mars_match.specs.declared.fault.MatchFault.{MatchFault}
use Rattle.mars_match.specs.declared.fault.MatchFault.TheVariants as fault
use Rattle.mars_match.specs.declared.table.Tally.{Tally}

-- ---- The rounds one after another

pub folded : List Outcome → List Tally → List Tally
folded [] tallies = tallies
folded (o ∷ os) tallies = folded os (all_added o 0 tallies)

one_first : (os : Result (List Outcome) MatchFault) (o : Outcome) (tallies : List Tally) → (os >>= λ os. Ok (folded os (all_added o 0 tallies))) ≡ ((os >>= λ os. Ok (o ∷ os)) >>= λ os. Ok (folded os tallies))
unfolding folded
one_first (Ok os) o tallies = refl
one_first (Err e) o tallies = refl

one_ended : (end : Result Outcome MatchFault) (left : ℕ) (T : ℕ → Outcome → Result (List Tally) MatchFault) (O : ℕ → Result (List Outcome) MatchFault) (tallies : List Tally) →
    ((left : ℕ) (o : Outcome) → T left o ≡ (O left >>= λ os. Ok (folded os (all_added o 0 tallies)))) →
    (end >>= λ o. T left o) ≡ ((end >>= λ o. O left >>= λ os. Ok (o ∷ os)) >>= λ os. Ok (folded os tallies))
one_ended (Ok o) left T O tallies h = h left o ∙ one_first (O left) o tallies
one_ended (Err e) left T O tallies h = refl

one_placed : (place : Result (List ℕ × ℕ) MatchFault) (E : List ℕ → Result Outcome MatchFault) (T : ℕ → Outcome → Result (List Tally) MatchFault) (O : ℕ → Result (List Outcome) MatchFault) (tallies : List Tally) →
    ((left : ℕ) (o : Outcome) → T left o ≡ (O left >>= λ os. Ok (folded os (all_added o 0 tallies)))) →
    (place >>= λ placed. E placed.0 >>= λ o. T placed.1 o) ≡ ((place >>= λ placed. E placed.0 >>= λ o. O placed.1 >>= λ os. Ok (o ∷ os)) >>= λ os. Ok (folded os tallies))
one_placed (Ok placed) E T O tallies h = one_ended (E placed.0) placed.1 T O tallies h
one_placed (Err e) E T O tallies h = refl

pub tallied_is : (p : Parameters) (warriors : List WarriorValue) (f : Scanned) (fixed : Option ℕ) (n k seed : ℕ) (tallies : List Tally) →
    tallied p warriors f fixed n k seed tallies ≡ (outcomes p warriors f fixed n k seed >>= λ os. Ok (folded os tallies))
unfolding folded
tallied_is p warriors f fixed zero k seed tallies = refl
tallied_is p warriors f fixed (suc n) k seed tallies =
    one_placed (placed_for p (length warriors) fixed seed) (λ starts. round_outcome p warriors f starts k) (λ left o. tallied p warriors f fixed n (k + 1) left (all_added o 0 tallies)) (λ left. outcomes p warriors f fixed n (k + 1) left) tallies
    (λ left o. tallied_is p warriors f fixed n (k + 1) left (all_added o 0 tallies))

-- ---- One warrior

each_added : ℕ → List Outcome → Tally → Tally
each_added i [] t = t
each_added i (o ∷ os) t = each_added i os (added o i t)

all_each : ℕ → List Outcome → List Tally → List Tally
all_each i os [] = []
all_each i os (t ∷ tallies) = each_added i os t ∷ all_each (i + 1) os tallies

all_each-none : (i : ℕ) (tallies : List Tally) → all_each i [] tallies ≡ tallies
unfolding all_each each_added
all_each-none i [] = refl
all_each-none i (t ∷ tallies) = ap (λ l. t ∷ l) (all_each-none (i + 1) tallies)

all_each-one : (i : ℕ) (o : Outcome) (os : List Outcome) (tallies : List Tally) → all_each i os (all_added o i tallies) ≡ all_each i (o ∷ os) tallies
unfolding all_each each_added
all_each-one i o os [] = refl
all_each-one i o os (t ∷ tallies) = ap (λ l. each_added i os (added o i t) ∷ l) (all_each-one (i + 1) o os tallies)

folded_is : (os : List Outcome) (tallies : List Tally) → folded os tallies ≡ all_each 0 os tallies
unfolding folded
folded_is [] tallies = sym (all_each-none 0 tallies)
folded_is (o ∷ os) tallies = folded_is os (all_added o 0 tallies) ∙ all_each-one 0 o os tallies

tally_of : ℤ → ℕ → ℕ → ℕ → Tally
tally_of p w t l = record { points = p; wins = w; ties = t; losses = l }

pub same_tally : (a b : Tally) → a.points ≡ b.points → a.wins ≡ b.wins → a.ties ≡ b.ties → a.losses ≡ b.losses → a ≡ b
unfolding tally_of
same_tally a b p w t l =
    ap (λ x. tally_of x a.wins a.ties a.losses) p ∙ ap (λ x. tally_of b.points x a.ties a.losses) w
    ∙ ap (λ x. tally_of b.points b.wins x a.losses) t ∙ ap (λ x. tally_of b.points b.wins b.ties x) l

sums_of : ℕ → List Outcome → Tally → Tally
sums_of i os t = record {
  points = t.points +ℤ points_of i os;
  wins = t.wins + count_by (has_won i) os;
  ties = t.ties + count_by (has_tied i) os;
  losses = t.losses + count_by (has_lost i) os;
}

each_added_is : (i : ℕ) (os : List Outcome) (t : Tally) → each_added i os t ≡ sums_of i os t
unfolding each_added sums_of
each_added_is i [] t = same_tally t _ (omega (arith, ints)) (omega arith) (omega arith) (omega arith)
each_added_is i (o ∷ os) t = each_added_is i os (added o i t) ∙ same_tally _ _
    (omega (arith, ints))
    (omega (arith, sum_by-cons (λ x. cond (has_won i x) 1 0) o os))
    (omega (arith, sum_by-cons (λ x. cond (has_tied i x) 1 0) o os))
    (omega (arith, sum_by-cons (λ x. cond (has_lost i x) 1 0) o os))

row_is : (w : WarriorValue) (i : ℕ) (os : List Outcome) → row_with w (each_added i os no_rounds) ≡ row_of w i os
unfolding sums_of
row_is w i os =
    let sums : sums_of i os no_rounds ≡ record { points = points_of i os; wins = count_by (has_won i) os; ties = count_by (has_tied i) os; losses = count_by (has_lost i) os } =
    same_tally _ _ (omega (arith, ints)) (omega arith) (omega arith) (omega arith) in
    ap (row_with w) (each_added_is i os no_rounds ∙ sums)

rows_are : (i : ℕ) (warriors : List WarriorValue) (os : List Outcome) → rows_with warriors (all_each i os (replicate (length warriors) no_rounds)) ≡ rows_from i warriors os
unfolding all_each
rows_are i [] os = refl
rows_are i (w ∷ warriors) os = rw (row_is w i os, rows_are (i + 1) warriors os) refl

pub rows_of_tallies : (warriors : List WarriorValue) (os : List Outcome) → rows_with warriors (folded os (replicate (length warriors) no_rounds)) ≡ rows_from 0 warriors os
rows_of_tallies warriors os = rw (folded_is os (replicate (length warriors) no_rounds)) (rows_are 0 warriors os)

rows_after : (warriors : List WarriorValue) (all : Result (List Outcome) MatchFault) →
    ((all >>= λ os. Ok (folded os (replicate (length warriors) no_rounds))) >>= λ tallies. checked_rows (rows_with warriors tallies)) ≡ (all >>= λ os. checked_rows (rows_from 0 warriors os))
rows_after warriors (Ok os) = ap checked_rows (rows_of_tallies warriors os)
rows_after warriors (Err e) = refl

-- The table from the tallies is that from the outcomes of the rounds.
pub table_from : (p : Parameters) (warriors : List WarriorValue) (f : Scanned) (fixed : Option ℕ) (n seed : ℕ) →
    (tallied p warriors f fixed n 0 seed (replicate (length warriors) no_rounds) >>= λ tallies. checked_rows (rows_with warriors tallies))
    ≡ (outcomes p warriors f fixed n 0 seed >>= λ all. checked_rows (rows_from 0 warriors all))
table_from p warriors f fixed n seed = rw (tallied_is p warriors f fixed n 0 seed (replicate (length warriors) no_rounds)) (rows_after warriors (outcomes p warriors f fixed n 0 seed))

-- ---- The table

module _ (p : Parameters) (warriors : List WarriorValue) (f : Scanned) (fixed : Option ℕ) (n seed : ℕ) where
  pub counted_err : (x : BattleFault) → count_fault (length warriors) ≡ Some x → table_of p warriors f fixed n seed ≡ Err (fault.Battle x)
  unfolding table_of
  counted_err x e = rw e refl

  counted_table : count_fault (length warriors) ≡ None → table_of p warriors f fixed n seed ≡ (tallied p warriors f fixed n 0 seed (replicate (length warriors) no_rounds) >>= λ tallies. checked_rows (rows_with warriors tallies))
  unfolding table_of
  counted_table e = rw e (sym (table_from p warriors f fixed n seed))

  pub table_err : (x : MatchFault) → count_fault (length warriors) ≡ None → tallied p warriors f fixed n 0 seed (replicate (length warriors) no_rounds) ≡ Err x → table_of p warriors f fixed n seed ≡ Err x
  table_err x none e = counted_table none ∙ rw e refl

  pub table_with : (tallies : List Tally) → count_fault (length warriors) ≡ None → tallied p warriors f fixed n 0 seed (replicate (length warriors) no_rounds) ≡ Ok tallies → table_of p warriors f fixed n seed ≡ checked_rows (rows_with warriors tallies)
  table_with tallies none e = counted_table none ∙ rw e refl

-- ---- No warrior or too many

pub refused_count : {A : Type 0} (o : Option BattleFault) (r : Result A MatchFault) (x : MatchFault) → MatchOption o (IsOk r) (λ f. r ≡ Err (fault.Battle f)) → r ≡ Err x → (y : BattleFault) × (o ≡ Some y) × (x ≡ fault.Battle y)
refused_count None r x h e = let bad = rw e at h in absurd (cc)
refused_count (Some y) r x h e = (y, refl, cc)

pub good_count : {A : Type 0} (o : Option BattleFault) (r : Result A MatchFault) (u : A) → MatchOption o (IsOk r) (λ f. r ≡ Err (fault.Battle f)) → r ≡ Ok u → o ≡ None
good_count None r u h e = refl
good_count (Some y) r u h e = absurd (cc)
