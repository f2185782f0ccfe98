-- What the program debugs, and how debugging may end.
use Rattle.std.specs.Prelude.{◌≡◌, ◌⊎◌, ℕ, false, List, length, Some, Result, Err}
use Rattle.redcode_text.specs.Results.{◌>>=◌}
use Rattle.mars_cell.specs.Warriors.{WarriorValue}
use Rattle.mars_core.specs.State.{State}
use Rattle.mars_core.specs.Start.{start_fault, start_state}
use Rattle.mars_match.specs.Battles.{unless}
use Rattle.mars_match.specs.Rounds.{placed_for}
use Rattle.mars_match.specs.declared.fault.MatchFault.{MatchFault}
use Rattle.mars_match.specs.declared.setup.Setup.{Setup}
use Rattle.mars_session.specs.History.{beginning}
use Rattle.mars_session.specs.Script.{SessionState}
use Rattle.mars_app.specs.Contests.{fault_of}
use Rattle.mars_app.specs.Debugger.Transcript.{Completes, ReadFails, WriteFails, core_size_of}
use Rattle.mars_app.specs.Streams.{StreamsValue, Untouched}
use Rattle.mars_app.specs.declared.fault.RunFault.{RunFault}
use Rattle.mars_app.specs.declared.fault.RunFault.TheVariants.{Commands, OutOfMemory, Output}

-- The state in which the battle of round 0 starts, or the first error. All warriors take their turns in load order, each from
-- its own starting position.
abbrev pub first_round : Setup → List WarriorValue → Result State MatchFault
first_round setup warriors =
    placed_for setup.params (length warriors) setup.plan.fixed setup.plan.seed >>= λ placed.
    unless (start_fault setup.params warriors placed.0) (start_state setup.params warriors placed.0)

-- A session at the start of the battle `s`, whose history keeps `most` places beside the last one.
abbrev pub session_at : ℕ → State → SessionState
session_at most s = record { history = beginning s; limit = most; retention = record { most = Some most; forgotten = false } }

-- The debugger ended at a `quit` or at the end of its input, after it started with the session `s`.
abbrev pub DebugSucceeds : SessionState → StreamsValue → StreamsValue → Type 0
DebugSucceeds s old new = (t : SessionState) × Completes (core_size_of s) old.unread new.unread s old.written t new.written

-- The debugger ended with a failed read or a failed write, after it started with the session `s`.
abbrev pub DebugsInPart : RunFault → SessionState → StreamsValue → StreamsValue → Type 0
DebugsInPart fault s old new =
    ((fault ≡ Commands) × (t : SessionState) × ReadFails (core_size_of s) old.unread new.unread s old.written t new.written)
    ⊎ ((fault ≡ Output) × (t : SessionState) × WriteFails (core_size_of s) old.unread new.unread s old.written t new.written)

-- Nothing was read or written, because an allocation failed or the round cannot start.
abbrev pub StartsNothing : RunFault → Result State MatchFault → StreamsValue → StreamsValue → Type 0
StartsNothing fault round old new =
    ((fault ≡ OutOfMemory) ⊎ ((f : MatchFault) × (round ≡ Err f) × (fault ≡ fault_of f))) × Untouched old new
