-- How many places are kept, and which are evicted.
-- The retention is stored beside the history and not in it, so that each definition reduces to its simple form if all places
-- are kept (`never`). For the same reason, functions match on the retention first.
use Rattle.std.specs.Prelude.{ℕ, Bool, false, ◌||◌, nat_lt, List, take, Option, Some, None}
use Rattle.mars_session.specs.History.{Place, History, position_of}

-- The maximum number of places kept beside the last one, None if there is none, and whether a place was ever evicted.
pub record Retention : Type 0 where
  pub most : Option ℕ
  pub forgotten : Bool

-- The retention that keeps all places.
abbrev pub never : Retention
never = record { most = None; forgotten = false }

-- The places of `before`, the nearest first, that are kept if no place follows the present one.
abbrev pub left : Option ℕ → List Place → List Place
left None before = before
left (Some k) before = take k before

-- The history `h` with only the nearest `most` places before the present one, or with all of them if `most` is None.
abbrev pub retained : Option ℕ → History → History
retained most h = record h { before = left most h.before }

-- `n` places before the present one are more than the maximum number, if there is one.
abbrev pub too_many : Option ℕ → ℕ → Bool
too_many None n = false
too_many (Some k) n = nat_lt k n

-- The retention `m` after the excess places of `h` are evicted. If there are any, `forgotten` is true from then on.
abbrev pub retention_after : Retention → History → Retention
retention_after m h = record m { forgotten = m.forgotten || too_many m.most (position_of h) }
