-- The outcome of one more round, and the rows with their points.
use Rattle.std.proofs.Common.{◌≡◌, refl, ℕ, zero, suc, ◌+◌, ◌-◌, ◌<◌, ◌⊎◌, ℤ, Option, Result, Ok, Err, List, [], ◌∷◌, length, get_or, pos, nat_eq, true, false, arith}
use Rattle.std.proofs.lemmas.List.{length-map}
use Rattle.std.proofs.lemmas.List.Folds.{list_all_at}
use Rattle.std.specs.List.{list_all}
use Rattle.redcode_text.specs.declared.fault.ExprFault.TheVariants.{Range}
use Rattle.redcode_asm.specs.Formula.{score_of}
use Rattle.mars_match.specs.Tables.{RowValue}
use Rattle.mars_cell.specs.Parameters.{Parameters}
use Rattle.mars_cell.specs.Warriors.{WarriorValue}
use Rattle.mars_core.specs.State.{State, is_empty, survivors_of}
use Rattle.std.specs.Prelude.{not, Bool}
use Rattle.redcode_text.specs.Tokens.{Scanned}
use Rattle.mars_match.specs.CallResults.{IsResult}
use Rattle.mars_match.specs.Battles.{lives, in_load_order, fought}
use Rattle.mars_match.specs.Rounds.{Outcome, placed_for, round_score, round_outcome, as_score, fits_in_64, checked_rows}
use Rattle.mars_match.specs.Code.Tallies.{tallied, all_added, row_with, rows_with}
use Rattle.mars_match.specs.declared.fault.MatchFault.{MatchFault}
use Rattle.mars_match.specs.declared.fault.MatchFault.TheVariants.{OutOfMemory, Score}
use Rattle.mars_match.specs.declared.table.Tally.{Tally}
use Rattle.mars_match.proofs.Rotations.{length-rotated}
use Rattle.mars_match.proofs.Sums.{how_many-rotated, how_many-lives}

pub fault_answer : {A B : Type 0} (view : A → B) (defined : Result B MatchFault) (result : Result A MatchFault) (f : MatchFault) → result ≡ Err f → (f ≡ OutOfMemory) ⊎ (defined ≡ Err f) → IsResult view defined result
fault_answer view defined result f e h = rw e h

-- The score is the same in load order and in the order of turns.
pub score-in_order : (f : Scanned) (first : ℕ) (s : State) → round_score f (in_load_order first s) ≡ round_score f (lives s)
score-in_order f first s =
    let n = length s.queues - first in
    let many : length (lives s) ≡ length s.queues = length-map s.queues (λ queue. not (is_empty queue)) in
    rw (how_many-rotated n (lives s), length-rotated n (lives s) (omega (arith, many))) refl

module _ (p : Parameters) (warriors : List WarriorValue) (f : Scanned) (starts : List ℕ) (k : ℕ) where
  pub outcome_ok : (lived : List Bool) (z : ℤ) → fought p warriors starts k ≡ Ok lived → round_score f lived ≡ Ok z → round_outcome p warriors f starts k ≡ Ok (record { lived = lived; score = z })
  outcome_ok lived z e h = rw (e, h) refl

  pub outcome_err : (lived : List Bool) (x : MatchFault) → fought p warriors starts k ≡ Ok lived → round_score f lived ≡ Err x → round_outcome p warriors f starts k ≡ Err x
  outcome_err lived x e h = rw (e, h) refl

module _ (p : Parameters) (warriors : List WarriorValue) (f : Scanned) (fixed : Option ℕ) (n k seed : ℕ) (tallies : List Tally) (more : k < n) where
  rest : n - k ≡ suc (n - (k + 1))
  rest = omega (arith, more)

  pub tallied_place_err : (x : MatchFault) → placed_for p (length warriors) fixed seed ≡ Err x → tallied p warriors f fixed (n - k) k seed tallies ≡ Err x
  tallied_place_err x e = rw (rest, e) refl

  pub tallied_round_err : (starts : List ℕ) (left : ℕ) (x : MatchFault) → placed_for p (length warriors) fixed seed ≡ Ok (starts, left) → round_outcome p warriors f starts k ≡ Err x → tallied p warriors f fixed (n - k) k seed tallies ≡ Err x
  tallied_round_err starts left x e h = rw (rest, e, h) refl

  pub tallied_more : (starts : List ℕ) (left : ℕ) (o : Outcome) → placed_for p (length warriors) fixed seed ≡ Ok (starts, left) → round_outcome p warriors f starts k ≡ Ok o →
      tallied p warriors f fixed (n - (k + 1)) (k + 1) left (all_added o 0 tallies) ≡ tallied p warriors f fixed (n - k) k seed tallies
  tallied_more starts left o e h = rw (rest, e, h) refl

-- The score of a battle in which a warrior survives.
pub score_is : (f : Scanned) (s : State) → (survivors_of s.queues ≡ 0 → ⊥) → round_score f (lives s) ≡ as_score (score_of f (pos (length s.queues)) (pos (survivors_of s.queues)))
score_is f s some =
    let test : nat_eq (survivors_of s.queues) 0 ≡ false = grind (arith, some) in
    rw (how_many-lives s.queues, length-map s.queues (λ queue. not (is_empty queue)), test) refl

-- There is a row for each warrior.
pub length-rows : (warriors : List WarriorValue) (tallies : List Tally) → length tallies ≡ length warriors → length (rows_with warriors tallies) ≡ length warriors
length-rows [] tallies e = refl
length-rows (w ∷ warriors) [] e = absurd (omega (arith, e))
length-rows (w ∷ warriors) (t ∷ tallies) e = rw (length-rows warriors tallies (omega (arith, e))) refl

pub row_at : (warriors : List WarriorValue) (tallies : List Tally) (i : ℕ) (w : WarriorValue) (t : Tally) (r : RowValue) → length tallies ≡ length warriors → i < length warriors → get_or (rows_with warriors tallies) i r ≡ row_with (get_or warriors i w) (get_or tallies i t)
row_at [] tallies i w t r e h = absurd (omega (arith, h))
row_at (x ∷ warriors) [] i w t r e h = absurd (omega (arith, e))
row_at (x ∷ warriors) (y ∷ tallies) zero w t r e h = refl
row_at (x ∷ warriors) (y ∷ tallies) (suc i) w t r e h = row_at warriors tallies i w t r (omega (arith, e)) (omega (arith, h))

-- If the points of a row do not fit 64 bits, checking the rows gives the error `Range`.
pub unfit : (rows : List RowValue) (i : ℕ) (r : RowValue) → i < length rows → fits_in_64 (get_or rows i r).points ≡ false → checked_rows rows ≡ Err (Score Range)
unfit rows i r h e = rw (list_all_at (λ row. fits_in_64 row.points) rows i r h e) refl

pub fit : (rows : List RowValue) → list_all (λ row. fits_in_64 row.points) rows ≡ true → checked_rows rows ≡ Ok rows
fit rows e = rw e refl
