-- Turns that are executed one after another, and the rows that record turns.
use Rattle.std.proofs.Common.{◌≡◌, ℕ, zero, suc, ◌+◌, ◌-◌, ◌<◌, Bool, true, false, List, [], ◌∷◌, ◌++◌, length, take, drop, set, get_or, refl, arith, append_assoc}
use Rattle.std.proofs.lemmas.List.{take_more_set, drop-set-lt, drop_more}
use Rattle.mars_core.specs.State.{State, is_over_of}
use Rattle.mars_core.specs.Turn.{turn_of, after_turns}
use Rattle.mars_c.specs.Records.{recorded}

-- A battle that is over has no turns.
pub over_stays : (n : ℕ) (s : State) → is_over_of s ≡ true → after_turns n s ≡ s
over_stays zero s over = refl
over_stays (suc n) s over = rw over refl

pub turn_first : (n : ℕ) (s : State) → is_over_of s ≡ false → after_turns (suc n) s ≡ after_turns n (turn_of s)
turn_first n s running = rw running refl

-- If turns are left, one of `n - i` turns is the next turn, and `n - (i + 1)` follow.
pub turn_less : (n i : ℕ) (s : State) → i < n → is_over_of s ≡ false → after_turns (n - i) s ≡ after_turns (n - (i + 1)) (turn_of s)
turn_less n i s more running =
    let e : n - i ≡ suc (n - (i + 1)) = omega arith in
    rw e (turn_first (n - (i + 1)) s running)

-- `m` turns, followed by `n`, are `m + n` turns.
add_by : (over : Bool) (m n : ℕ) (s : State) → is_over_of s ≡ over → after_turns n (after_turns m (turn_of s)) ≡ after_turns (m + n) (turn_of s)
    → after_turns n (after_turns (suc m) s) ≡ after_turns (suc (m + n)) s
add_by true m n s over inner = rw over (over_stays n s over)
add_by false m n s running inner = rw running inner

pub add_turns : (m n : ℕ) (s : State) → after_turns n (after_turns m s) ≡ after_turns (m + n) s
add_turns zero n s = let e : 0 + n ≡ n = omega arith in rw e refl
add_turns (suc m) n s = let e : suc m + n ≡ suc (m + n) = omega arith in rw e (add_by (is_over_of s) m n s refl (add_turns m n (turn_of s)))

-- Rows that record turns.
module _ {Row : Type 0} (row_of : State → Row) where
  -- Rows of a battle that is over stay as they are.
  pub none_recorded : (s : State) (rows : List Row) → is_over_of s ≡ true → recorded row_of s rows ≡ rows
  none_recorded s [] over = refl
  none_recorded s (row ∷ rows) over = rw over refl

  pub one_recorded : (s : State) (row : Row) (rows : List Row) → is_over_of s ≡ false → recorded row_of s (row ∷ rows) ≡ row_of s ∷ recorded row_of (turn_of s) rows
  one_recorded s row rows running = rw running refl

  -- Recording the next turn in row `i` gives the same rows as recording all turns from row `i` on.
  pub row_more : (s : State) (rows : List Row) (i : ℕ) → i < length rows → is_over_of s ≡ false
      → take (i + 1) (set rows i (row_of s)) ++ recorded row_of (turn_of s) (drop (i + 1) (set rows i (row_of s))) ≡ take i rows ++ recorded row_of s (drop i rows)
  row_more s rows i inside running =
      let further : i < i + 1 = omega arith in
      let d = row_of s in
      rw (take_more_set rows i (row_of s) inside, drop-set-lt (i + 1) rows i (row_of s) further, drop_more rows i d inside, append_assoc, one_recorded s (get_or rows i d) (drop (i + 1) rows) running) refl
