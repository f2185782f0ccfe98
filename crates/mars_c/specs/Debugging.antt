-- The debugger's replies over a battle in a block.
use Rattle.std.specs.Prelude.{ℕ, ⊤, List}
use Rattle.mars_core.specs.Block.{Spells}
use Rattle.mars_core.specs.State.{State}
use Rattle.mars_session.specs.Script.{SessionState}
use Rattle.mars_c.specs.Battles.{IsDebugged, IsHistory}
use Rattle.mars_c.specs.Blocks.{RefusesWords}
use Rattle.mars_c.specs.declared.faults.BlockRefusal.{BlockRefusal}
use Rattle.mars_c.specs.declared.faults.BlockRefusal.TheVariants.{OutOfMemory, Block, Capacity, NoSuchEdit, Edit, History, Condition, Pasts, Process}

-- `text` has the debugger's replies to `lines`, over the battle whose block the words begin with. The history keeps `history` places
-- beside the last one.
abbrev pub Debugs : List ℕ → ℕ → List ℕ → List ℕ → Type 0
Debugs words history lines text = (s : State) × (session : SessionState) × Spells s words × IsHistory history × IsDebugged s history lines session text

-- `refusal` is a reason for which nothing is debugged: the history is out of its range, or the words do not begin with the
-- block of a battle.
abbrev pub RefusesDebugging : List ℕ → ℕ → BlockRefusal → Type 0
RefusesDebugging words history OutOfMemory = ⊤
RefusesDebugging words history (Block fault) = RefusesWords words (Block fault)
RefusesDebugging words history History = IsHistory history → ⊥
RefusesDebugging words history Capacity = ⊥
RefusesDebugging words history (NoSuchEdit index) = ⊥
RefusesDebugging words history (Edit index fault) = ⊥
RefusesDebugging words history (Condition index) = ⊥
RefusesDebugging words history Pasts = ⊥
RefusesDebugging words history Process = ⊥
