-- The battle at the start of a round, and the debugger's replies over a battle.
use Rattle.std.specs.Prelude.{◌≡◌, ◌<◌, ◌≤◌, ℕ, zero, suc, codes, List, [], length, Ok, Option, Result, Some}
use Rattle.mars_cell.specs.Parameters.{Parameters}
use Rattle.mars_cell.specs.Warriors.{WarriorValue}
use Rattle.mars_core.specs.State.{State}
use Rattle.mars_match.specs.Battles.{started}
use Rattle.mars_match.specs.Rounds.{placed_for}
use Rattle.mars_match.specs.declared.fault.MatchFault.{MatchFault}
use Rattle.mars_match.specs.declared.setup.Setup.{Setup}
use Rattle.redcode_text.specs.Results.{◌>>=◌}
use Rattle.mars_session.specs.Script.{SessionState}
use Rattle.mars_app.specs.Debugger.Transcript.{Completes}
use Rattle.mars_app.specs.Debugging.{session_at}
use Rattle.mars_app.specs.Limits.{max_history}
use Rattle.mars_match.specs.Placement.{FitsTwo}
use Rattle.mars_c.specs.Settings.{IsSetup}
use Rattle.mars_c.specs.Entrants.{AreEntrants}
use Rattle.mars_c.specs.declared.cells.MarsCell.{MarsCell}
use Rattle.mars_c.specs.declared.warriors.MarsWarrior.{MarsWarrior}
use Rattle.mars_c.specs.declared.settings.MarsSettings.{MarsSettings}

-- The starting positions of round `k` (from 0) for `w` warriors. `seed` is the seed of round 0; each earlier round draws its own
-- positions and leaves a new seed.
abbrev pub placed_in : Parameters → ℕ → Option ℕ → ℕ → ℕ → Result (List ℕ) MatchFault
placed_in p w fixed zero seed = placed_for p w fixed seed >>= λ placed. Ok placed.0
placed_in p w fixed (suc k) seed = placed_for p w fixed seed >>= λ placed. placed_in p w fixed k placed.1

-- The state in which round `round` of a match of the warriors `ws` starts, or the error of the first round that cannot be
-- placed or started.
abbrev pub round_start_state : Setup → List WarriorValue → ℕ → Result State MatchFault
round_start_state setup ws round = placed_in setup.params (length ws) setup.plan.fixed round setup.plan.seed >>= λ starts. started setup.params ws starts round

-- `s` is the state in which round `round` of a match of the warriors `ws` starts.
abbrev pub IsRound : Setup → List WarriorValue → ℕ → State → Type 0
IsRound setup ws round s = (starts : List ℕ) × (placed_in setup.params (length ws) setup.plan.fixed round setup.plan.seed ≡ Ok starts)
    × (started setup.params ws starts round ≡ Ok s)

-- `start` is the state in which round `round` of a match starts, with the settings `s` and the warriors that `cells` and
-- `entrants` describe.
abbrev pub IsStart : MarsSettings → List MarsCell → List MarsWarrior → ℕ → State → Type 0
IsStart s cells entrants round start = (setup : Setup) × (ws : List WarriorValue)
    × IsSetup s (codes "0") setup × AreEntrants setup.params cells entrants ws × FitsTwo setup.params (length ws) setup.plan.fixed × (round < s.rounds)
    × IsRound setup ws round start

-- A history may keep `places` places beside the last one.
abbrev pub IsHistory : ℕ → Type 0
IsHistory places = (1 ≤ places) × (places ≤ max_history)

-- A session over the battle `start`, whose history keeps `history` places beside the last one, has read the debugger's
-- `lines`, up to `quit` or to their end, and replied `text`. `session` is its state then.
abbrev pub IsDebugged : State → ℕ → List ℕ → SessionState → List ℕ → Type 0
IsDebugged start history lines session text = (left : Option (List ℕ))
    × Completes start.params.core_size (Some lines) left (session_at history start) (Some []) session (Some text)
