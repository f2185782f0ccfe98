-- The setup and the rows of a match or a league, what it writes, and its errors.
use Rattle.std.specs.Prelude.{◌≡◌, ◌≤◌, ◌⊎◌, ℕ, ◌+◌, Bool, if◌then◌else◌, List, [], ◌∷◌, ◌++◌, length, decimal, codes, Option, Result, Ok, Err, take}
use Rattle.std.specs.Io.KnownBytes.{Appends}
use Rattle.mars_cell.specs.ParameterFaults.{checked_parameters}
use Rattle.mars_cell.specs.Warriors.{WarriorValue}
use Rattle.mars_cell.specs.Written.{load_text}
use Rattle.mars_match.specs.Leagues.{league_of}
use Rattle.mars_match.specs.Rounds.{table_of}
use Rattle.mars_match.specs.Results.{results_text}
use Rattle.mars_match.specs.Tables.{RowValue}
use Rattle.mars_cell.specs.Output.{CutShort}
use Rattle.mars_core.specs.declared.battle.start.BattleFault.TheVariants as battle
use Rattle.mars_match.specs.declared.fault.MatchFault.{MatchFault}
use Rattle.mars_match.specs.declared.fault.MatchFault.TheVariants as match
use Rattle.mars_match.specs.declared.placement.PlaceFault.TheVariants as place
use Rattle.redcode_asm.specs.Formula.{formula_of}
use Rattle.mars_match.specs.declared.setup.Setup.{Setup}
use Rattle.mars_app.specs.Options.{OptionsValue, parameters_of}
use Rattle.mars_app.specs.declared.fault.RunFault.{RunFault}
use Rattle.mars_app.specs.declared.fault.RunFault.TheVariants.{Placement, Battle, Score, OutOfMemory, Output}

-- The line of the warrior `w` with the number `number`, such as `warrior 0: Imp by Dewdney, 1 instructions`.
unfoldable pub listing_head : ℕ → WarriorValue → List ℕ
listing_head number w =
    codes "warrior " ++ decimal number ++ codes ": " ++ w.name ++ codes " by " ++ w.author ++ codes ", " ++ decimal (length w.cells) ++ codes " instructions\n"

-- The line of a warrior, its load file, and an empty line.
abbrev pub listed : ℕ → ℕ → WarriorValue → List ℕ
listed core_size number w = listing_head number w ++ load_text core_size w ++ codes "\n"

-- The listing of the warriors in load order, numbered from `number` on.
abbrev pub listing_from : ℕ → ℕ → List WarriorValue → List ℕ
listing_from core_size number [] = []
listing_from core_size number (w ∷ warriors) = listed core_size number w ++ listing_from core_size (number + 1) warriors

-- The listing of all warriors; empty if `brief` is true.
abbrev pub listing : ℕ → Bool → List WarriorValue → List ℕ
listing core_size brief warriors = if brief then [] else listing_from core_size 0 warriors

-- The number of warriors in a battle: two in a league, all otherwise.
abbrev pub contest_size : OptionsValue → ℕ
contest_size o = if o.league then 2 else length o.files

-- `setup` is the setup of the match, league or debugged battle that the options describe.
pub record IsSetupOf (o : OptionsValue) (setup : Setup) : Type 0 where
  pub allowed : checked_parameters (parameters_of o) ≡ Ok setup.params
  pub scored : formula_of o.score ≡ Ok setup.formula
  pub rounds : setup.plan.rounds ≡ o.rounds
  pub seed : setup.plan.seed ≡ o.seed
  pub fixed : setup.plan.fixed ≡ o.fixed

-- The rows of the league if `league` is true, otherwise of the match; or the error that ended it.
abbrev pub contest : Bool → Setup → List WarriorValue → Result (List RowValue) MatchFault
contest league setup warriors =
    if league then league_of setup.params warriors setup.formula setup.plan.fixed setup.plan.rounds setup.plan.seed
    else table_of setup.params warriors setup.formula setup.plan.fixed setup.plan.rounds setup.plan.seed

-- The error of the program for an error of a match. A failed allocation at any step is `OutOfMemory`.
abbrev pub fault_of : MatchFault → RunFault
fault_of match.OutOfMemory = OutOfMemory
fault_of (match.Place place.OutOfMemory) = OutOfMemory
fault_of (match.Place fault) = Placement fault
fault_of (match.Battle battle.OutOfMemory) = OutOfMemory
fault_of (match.Battle fault) = Battle fault
fault_of (match.Score fault) = Score fault

-- Writing `text` failed: a write failed after a beginning of `text`, not all of it; or an allocation failed after a beginning, possibly
-- all of it.
abbrev pub WriteCutShort : RunFault → Option (List ℕ) → Option (List ℕ) → List ℕ → Type 0
WriteCutShort fault old new text =
    ((fault ≡ Output) × CutShort old new text)
    ⊎ ((fault ≡ OutOfMemory) × (n : ℕ) × (n ≤ length text) × Appends old new (take n text))

-- A match or league ended with the error `fault`: while the listing was written; or in the match itself, after the whole
-- listing; or while the results were written.
abbrev pub ContestFails : RunFault → Result (List RowValue) MatchFault → Bool → Option (List ℕ) → Option (List ℕ) → List ℕ → Type 0
ContestFails fault contest sorted old new listing =
    WriteCutShort fault old new listing
    ⊎ (((f : MatchFault) × (contest ≡ Err f) × (fault ≡ fault_of f) × Appends old new listing)
    ⊎ ((rows : List RowValue) × (contest ≡ Ok rows) × (fault ≡ Output) × CutShort old new (listing ++ results_text rows sorted)))
