-- A tape of whole copies of the battle, as a history. `ks` is the list of copies.
use Rattle.std.specs.Prelude.{◌≡◌, ℕ, zero, suc, ◌+◌, ◌-◌, ◌<◌, ◌≤◌, false, List, [], ◌∷◌, length, slice_index_or}
use Rattle.mars_core.specs.State.{State}
use Rattle.mars_core.specs.Shape.{SameShape}
use Rattle.mars_session.specs.declared.snapshots.Snapshot.{Snapshot}
use Rattle.mars_session.specs.History.{Place, History}

-- The copy `k` as a place.
abbrev pub place_of : Snapshot → Place
place_of k = record { state = k.battle; mark = k.mark }

-- A state without cells and warriors.
abbrev pub no_state : State
no_state = record {
  params = record { core_size = 0; processes = 0; cycles = 0; read_limit = 0; write_limit = 0; max_length = 0; distance = 0 };
  core = [];
  queues = [];
  next = 0;
  cycle = 0;
  turns = 0;
  deaths = [];
}

-- The copy that reading past the end of the list returns.
abbrev pub nowhere : Snapshot
nowhere = record { battle = no_state; mark = false }

-- The copy at index `i`.
abbrev pub snapshot_at : List Snapshot → ℕ → Snapshot
snapshot_at ks i = slice_index_or ks i nowhere

-- The first `n` copies as places, in reverse order.
abbrev pub before_of : List Snapshot → ℕ → List Place
before_of ks zero = []
before_of ks (suc n) = place_of (snapshot_at ks n) ∷ before_of ks n

-- `n` copies from the index `from` on, as places.
abbrev pub after_of : List Snapshot → ℕ → ℕ → List Place
after_of ks from zero = []
after_of ks from (suc n) = place_of (snapshot_at ks from) ∷ after_of ks (from + 1) n

-- The history of a tape whose first `len` copies are its places, and whose present place is the copy at index `at`.
abbrev pub whole_history : List Snapshot → ℕ → ℕ → History
whole_history ks at len = record { before = before_of ks at; present = place_of (snapshot_at ks at); after = after_of ks (at + 1) (len - (at + 1)) }

-- The number of turns of the copy at index `i`.
abbrev pub turns_at : List Snapshot → ℕ → ℕ
turns_at ks i = (snapshot_at ks i).battle.turns

-- The first `len` copies are places, and `at` is the index of the present one. The number of turns never falls from
-- place to place, and rises by at most one. All copies have the same shape, so that any copy can overwrite any other.
pub record IsWhole (ks : List Snapshot) (at len : ℕ) : Type 0 where
  pub present : at < len
  pub copies : len ≤ length ks
  pub rises : (i : ℕ) → i + 1 < len → (turns_at ks i ≤ turns_at ks (i + 1)) × (turns_at ks (i + 1) ≤ turns_at ks i + 1)
  pub shapes : (i j : ℕ) → i < length ks → j < length ks → SameShape (snapshot_at ks i).battle (snapshot_at ks j).battle

-- `new` is `old`, followed by any number of copies of the battle at index `at` of `old`.
pub record IsGrown (old new : List Snapshot) (at : ℕ) : Type 0 where
  pub longer : length old ≤ length new
  pub kept : (k : ℕ) → k < length old → snapshot_at new k ≡ snapshot_at old k
  pub copies : (k : ℕ) → length old ≤ k → k < length new → (snapshot_at new k).battle ≡ (snapshot_at old at).battle
