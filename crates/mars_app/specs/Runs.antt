-- What a run that ends without an error has done.
use Rattle.std.specs.Prelude.{◌≡◌, ℕ, false, true, List, ◌++◌, Option, Ok}
use Rattle.std.specs.List.{flat_map}
use Rattle.mars_cell.specs.Warriors.{WarriorValue}
use Rattle.mars_cell.specs.Written.{load_text}
use Rattle.mars_core.specs.State.{State}
use Rattle.mars_match.specs.Results.{results_text}
use Rattle.mars_match.specs.Tables.{RowValue}
use Rattle.mars_match.specs.declared.setup.Setup.{Setup}
use Rattle.mars_app.specs.Contests.{IsSetupOf, contest, contest_size, listing}
use Rattle.mars_app.specs.Debugging.{DebugSucceeds, first_round, session_at}
use Rattle.mars_app.specs.Loading.{AreLoaded}
use Rattle.mars_app.specs.Streams.{StreamsValue, Writes}
use Rattle.mars_app.specs.Options.{Ask, AskForHelp, OptionsValue}

-- What the arguments request: options, the setup that they describe, and the warriors of their files.
pub record Asked (words : List (List ℕ)) (known : List ℕ → Option (List ℕ)) : Type 0 where
  pub options : OptionsValue
  pub setup : Setup
  pub warriors : List WarriorValue
  pub said : Ask words options
  pub held : IsSetupOf options setup
  pub loaded : AreLoaded known setup.params options.rounds (contest_size options) options.files warriors

-- The run has written the help; or the load file of the warrior; or has debugged the battle of the first round; or has written
-- the listing and the results of a match or a league. Only the debugger reads the input.
pub data RunSucceeds (words : List (List ℕ)) (known : List ℕ → Option (List ℕ)) (old new : StreamsValue) : Type 0 where
  helped : AskForHelp words → (text : List ℕ) → Writes old new text → RunSucceeds words known old new
  written : (asked : Asked words known) → asked.options.load ≡ true
      → Writes old new (flat_map (load_text asked.setup.params.core_size) asked.warriors) → RunSucceeds words known old new
  debugged : (asked : Asked words known) → asked.options.load ≡ false → asked.options.debugger ≡ true
      → (s : State) → first_round asked.setup asked.warriors ≡ Ok s
      → DebugSucceeds (session_at asked.options.history s) old new → RunSucceeds words known old new
  contested : (asked : Asked words known) → asked.options.load ≡ false → asked.options.debugger ≡ false
      → (rows : List RowValue) → contest asked.options.league asked.setup asked.warriors ≡ Ok rows
      → Writes old new (listing asked.setup.params.core_size asked.options.brief asked.warriors ++ results_text rows asked.options.sorted)
      → RunSucceeds words known old new
