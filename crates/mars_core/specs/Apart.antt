-- A warrior apart from the others: it reads and writes only in its own part of the core, and no other warrior changes a
-- cell there. Laws state that the other warriors have no influence on such a warrior.
use Rattle.std.specs.Prelude.{◌≡◌, ◌≢◌, ℕ, zero, suc, ◌+◌, ◌<◌, ◌==◌, Bool, true, false, if◌then◌else◌, List, [], ◌++◌}
use Rattle.std.specs.List.{AllPass}
use Rattle.mars_core.specs.State.{State, cell_at, queue_of, is_over_of}
use Rattle.mars_core.specs.Turn.{turn_of, after_turns}
use Rattle.mars_core.specs.Touched.{touched_in_turn}

-- The battle is not over before `n` more turns are executed.
abbrev pub GoesOn : ℕ → State → Type 0
GoesOn n s = (k : ℕ) → k < n → is_over_of (after_turns k s) ≡ false

-- The addresses of the cells that `warrior` reads or writes in the next `n` turns.
abbrev pub touched_in : ℕ → ℕ → State → List ℕ
touched_in warrior zero s = []
touched_in warrior (suc n) s =
    if is_over_of s then [] else (if s.next == warrior then touched_in_turn s else []) ++ touched_in warrior n (turn_of s)

-- All cells that `warrior` reads or writes in the next `n` turns are in `part`.
abbrev pub StaysWithin : (ℕ → Bool) → ℕ → ℕ → State → Type 0
StaysWithin part warrior n s = AllPass part (touched_in warrior n s)

-- In the next `n` turns, the warriors other than `warrior` change no cell of `part`.
abbrev pub OthersLeaveUnchanged : (ℕ → Bool) → ℕ → ℕ → State → Type 0
OthersLeaveUnchanged part warrior n s =
    (k : ℕ) → k < n → let t = after_turns k s in is_over_of t ≡ false → t.next ≢ warrior →
    (address : ℕ) → part address ≡ true → cell_at (turn_of t).core address ≡ cell_at t.core address

-- The number of turns that `warrior` has among the next `n`.
abbrev pub count_own_turns : ℕ → ℕ → State → ℕ
count_own_turns warrior zero s = 0
count_own_turns warrior (suc n) s = if is_over_of s then 0 else (if s.next == warrior then 1 else 0) + count_own_turns warrior n (turn_of s)

-- The warrior `warrior` of the battle `s` and the warrior `other` of the battle `t` have the same parameters, the same
-- processes, and the same cells in `part`.
pub record AgreesOn (part : ℕ → Bool) (warrior : ℕ) (s : State) (other : ℕ) (t : State) : Type 0 where
  pub params : s.params ≡ t.params
  pub processes : queue_of s.queues warrior ≡ queue_of t.queues other
  pub cells : (address : ℕ) → part address ≡ true → cell_at s.core address ≡ cell_at t.core address
