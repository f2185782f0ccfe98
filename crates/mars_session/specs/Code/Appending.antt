-- States appended to a tape one by one; each append may evict the oldest place.
use Rattle.std.specs.Prelude.{List, [], ◌∷◌}
use Rattle.mars_core.specs.State.{State}
use Rattle.mars_session.specs.History.{History, append}
use Rattle.mars_session.specs.Retention.{Retention, retained, retention_after}

-- A tape as a value, without its room: its history and its retention.
pub record Kept : Type 0 where
  pub history : History
  pub retention : Retention

-- Appends the state `s` to the tape `t`, and evicts the places beyond those that the retention of `t` keeps.
abbrev pub go_on : Kept → State → Kept
go_on t s = record { history = retained t.retention.most (append t.history s); retention = retention_after t.retention (append t.history s) }

-- Appends the states of a list to the tape `t` one by one, each as `go_on` does.
abbrev pub go_on_all : Kept → List State → Kept
go_on_all t [] = t
go_on_all t (s ∷ ss) = go_on_all (go_on t s) ss
