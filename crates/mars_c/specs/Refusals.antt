-- Why a source is not assembled, a load file is not read or written, a formula has no value, or a match, league,
-- population or round is not run. The definitions allow `OutOfMemory` as a refusal of every call, because an allocation
-- may fail. Parameters: `s` are the caller's settings, `text` is the score formula or the load file, and `cells` and
-- `entrants` are the caller's warriors.
use Rattle.std.specs.Prelude.{◌≡◌, ◌≢◌, ◌≤◌, ◌<◌, ◌⊎◌, ◌&&◌, ℕ, ⊤, false, List, Ok, Err, Result, Some, codes, length, slice_get, sum_by, take}
use Rattle.mars_cell.specs.Load.{load}
use Rattle.mars_cell.specs.Parameters.{Parameters}
use Rattle.mars_cell.specs.ParameterFaults.{checked_parameters}
use Rattle.mars_cell.specs.Warriors.{WarriorValue}
use Rattle.mars_core.specs.Limits.{max_warriors}
use Rattle.mars_core.specs.declared.battle.start.BattleFault.TheVariants as battle
use Rattle.mars_match.specs.Leagues.{league_of, max_league_warriors}
use Rattle.mars_match.specs.Placement.{FitsTwo}
use Rattle.mars_match.specs.Rounds.{table_of}
use Rattle.mars_match.specs.declared.fault.MatchFault.{MatchFault}
use Rattle.mars_match.specs.declared.fault.MatchFault.TheVariants as fight
use Rattle.mars_match.specs.declared.placement.PlaceFault.TheVariants as place
use Rattle.mars_match.specs.declared.setup.Setup.{Setup}
use Rattle.redcode_asm.specs.Formula.{formula_of}
use Rattle.redcode_asm.specs.Assembly.{assembly}
use Rattle.redcode_text.specs.Tokens.{Scanned}
use Rattle.redcode_asm.specs.declared.fault.AsmFault.{AsmFault}
use Rattle.redcode_asm.specs.declared.fault.AsmProblem.{AsmProblem}
use Rattle.redcode_asm.specs.declared.fault.AsmProblem.TheVariants as problem
use Rattle.mars_c.specs.Settings.{AreRounds, IsSeed, IsSetup, parameters_in, position_of}
use Rattle.mars_c.specs.Battles.{round_start_state}
use Rattle.mars_c.specs.Codes.{fault_of}
use Rattle.mars_c.specs.Contests.{points_each, population}
use Rattle.mars_c.specs.Entrants.{AreEntrants, IsNoEntrant, Reads, is_name, named}
use Rattle.mars_c.specs.declared.faults.MarsFault.{MarsFault}
use Rattle.mars_c.specs.declared.faults.CallRefusal.{CallRefusal}
use Rattle.mars_c.specs.declared.faults.CallRefusal.TheVariants.{OutOfMemory, Settings, Parameters as OfParameters, Formula, Assembly, Load, Placement, Battle, Score, Warrior}
use Rattle.mars_c.specs.declared.ranges.SettingsFault.{SettingsFault}
use Rattle.mars_c.specs.declared.ranges.SettingsFault.TheVariants.{Rounds, Seed, Position, Warriors, Lengths, Rows, Round}
use Rattle.mars_c.specs.declared.cells.MarsCell.{MarsCell}
use Rattle.mars_c.specs.declared.settings.MarsSettings.{MarsSettings}
use Rattle.mars_c.specs.declared.warriors.EntrantFault.{EntrantFault}
use Rattle.mars_c.specs.declared.warriors.EntrantFault.TheVariants as entrant
use Rattle.mars_c.specs.declared.warriors.MarsProgram.{MarsProgram}
use Rattle.mars_c.specs.declared.warriors.MarsWarrior.{MarsWarrior}

-- The refusal of a source with the error `fault`, by its problem.
abbrev pub refusal_at : AsmProblem → AsmFault → CallRefusal
refusal_at problem.OutOfMemory fault = OutOfMemory
refusal_at other fault = Assembly fault

-- `refusal` is a reason for which the source is not assembled: an error of the parameters or of the source.
abbrev pub RefusesSource : MarsSettings → ℕ → List ℕ → CallRefusal → Type 0
RefusesSource s warriors source OutOfMemory = ⊤
RefusesSource s warriors source (OfParameters fault) = checked_parameters (parameters_in s) ≡ Err fault
RefusesSource s warriors source (Assembly fault) = (p : Parameters) × (checked_parameters (parameters_in s) ≡ Ok p) × (assembly p s.rounds warriors source ≡ Err fault)
RefusesSource s warriors source other = ⊥

-- `refusal` is a reason for which the load file is not read: an error of the parameters or of the file.
abbrev pub RefusesLoad : MarsSettings → List ℕ → CallRefusal → Type 0
RefusesLoad s text OutOfMemory = ⊤
RefusesLoad s text (OfParameters fault) = checked_parameters (parameters_in s) ≡ Err fault
RefusesLoad s text (Load fault) = (p : Parameters) × (checked_parameters (parameters_in s) ≡ Ok p) × (load p.core_size p.max_length text ≡ Err fault)
RefusesLoad s text other = ⊥

-- The error is a reason for which the cells are not those of `program`: a name is not valid, or there is no such
-- warrior.
abbrev pub IsNoProgram : Parameters → List MarsCell → MarsProgram → EntrantFault → Type 0
IsNoProgram p cells program entrant.Name = (is_name (named program.name) && is_name (named program.author)) ≡ false
IsNoProgram p cells program fault = IsNoEntrant p cells program.warrior.start fault

-- `refusal` is a reason for which no load file is written: the parameters are rejected, the program has another number of
-- cells, or the cells are not those of the program.
abbrev pub RefusesWriting : MarsSettings → List MarsCell → MarsProgram → CallRefusal → Type 0
RefusesWriting s cells program OutOfMemory = ⊤
RefusesWriting s cells program (OfParameters fault) = checked_parameters (parameters_in s) ≡ Err fault
RefusesWriting s cells program (Settings Lengths) = program.warrior.length ≢ length cells
RefusesWriting s cells program (Warrior index fault) = (p : Parameters) × (checked_parameters (parameters_in s) ≡ Ok p) × (index ≡ 0)
    × (fault ≢ entrant.OutOfMemory) × IsNoProgram p cells program fault
RefusesWriting s cells program other = ⊥

-- `fault` is the error of a refusal for which `Refuses` holds.
abbrev pub HasCause : (CallRefusal → Type 0) → MarsFault → Type 0
HasCause Refuses fault = (refusal : CallRefusal) × (fault ≡ fault_of refusal) × Refuses refusal

-- The warrior at `index` is the first wrong one, with the error `fault`, which is not `OutOfMemory`: the cells of the warriors before it
-- are read.
abbrev pub IsWrong : Parameters → List MarsCell → List MarsWarrior → ℕ → EntrantFault → Type 0
IsWrong p cells entrants index fault = (ws : List WarriorValue) × (rest : List MarsCell) × (one : MarsWarrior) × (slice_get entrants index ≡ Some one)
    × Reads p cells (take index entrants) ws rest × (one.length ≤ length rest) × (fault ≢ entrant.OutOfMemory)
    × IsNoEntrant p (take one.length rest) one.start fault

-- The lengths of the warriors do not add up to the number of cells.
abbrev pub LengthsDiffer : List MarsCell → List MarsWarrior → Type 0
LengthsDiffer cells entrants = sum_by (λ (one : MarsWarrior). one.length) entrants ≢ length cells

-- The setting that the error names is out of its range. The position must fit battles of `warriors` warriors.
abbrev pub IsOutside : MarsSettings → ℕ → SettingsFault → Type 0
IsOutside s warriors Rounds = AreRounds s.rounds → ⊥
IsOutside s warriors Seed = IsSeed s.seed → ⊥
IsOutside s warriors Position = (p : Parameters) × (checked_parameters (parameters_in s) ≡ Ok p) × (FitsTwo p warriors (position_of s.position) → ⊥)
IsOutside s warriors other = ⊥

-- `refusal` is the error of the plan. The position must fit battles of `warriors` warriors.
abbrev pub RefusesPlan : MarsSettings → ℕ → CallRefusal → Type 0
RefusesPlan s warriors OutOfMemory = ⊤
RefusesPlan s warriors (Settings fault) = IsOutside s warriors fault
RefusesPlan s warriors other = ⊥

-- `refusal` is the error of the parameters or the warriors.
abbrev pub RefusesWarriors : MarsSettings → List MarsCell → List MarsWarrior → CallRefusal → Type 0
RefusesWarriors s cells entrants OutOfMemory = ⊤
RefusesWarriors s cells entrants (Settings Lengths) = LengthsDiffer cells entrants
RefusesWarriors s cells entrants (OfParameters fault) = checked_parameters (parameters_in s) ≡ Err fault
RefusesWarriors s cells entrants (Warrior index fault) = (p : Parameters) × (checked_parameters (parameters_in s) ≡ Ok p) × IsWrong p cells entrants index fault
RefusesWarriors s cells entrants other = ⊥

-- `refusal` is the error of the settings, the formula `text` or the warriors. The position must fit battles of `warriors`
-- warriors.
abbrev pub RefusesEntry : MarsSettings → List ℕ → ℕ → List MarsCell → List MarsWarrior → CallRefusal → Type 0
RefusesEntry s text warriors cells entrants (Settings Lengths) = LengthsDiffer cells entrants
RefusesEntry s text warriors cells entrants (Settings fault) = IsOutside s warriors fault
RefusesEntry s text warriors cells entrants (Formula fault) = formula_of text ≡ Err fault
RefusesEntry s text warriors cells entrants other = RefusesWarriors s cells entrants other

-- `refusal` is the reason for which a survivor has no points by the formula `text`: the error of the formula, or of its value.
abbrev pub RefusesScore : List ℕ → ℕ → ℕ → CallRefusal → Type 0
RefusesScore text warriors survivors OutOfMemory = ⊤
RefusesScore text warriors survivors (Formula fault) = formula_of text ≡ Err fault
RefusesScore text warriors survivors (Score fault) = (formula : Scanned) × (formula_of text ≡ Ok formula) × (points_each formula warriors survivors ≡ Err fault)
RefusesScore text warriors survivors other = ⊥

-- The refusal of a match with an error. A failed allocation at any step is `OutOfMemory`.
abbrev pub fight_refusal : MatchFault → CallRefusal
fight_refusal fight.OutOfMemory = OutOfMemory
fight_refusal (fight.Place place.OutOfMemory) = OutOfMemory
fight_refusal (fight.Battle battle.OutOfMemory) = OutOfMemory
fight_refusal (fight.Place fault) = Placement fault
fight_refusal (fight.Battle fault) = Battle fault
fight_refusal (fight.Score fault) = Score fault

-- `refusal` is the error of what the warriors do: `fought` has this error for the warriors and the setup that the settings and the formula
-- describe.
abbrev pub Fails : {X : Type 0} → MarsSettings → List ℕ → List MarsCell → List MarsWarrior → (Setup → List WarriorValue → Result X MatchFault) → CallRefusal → Type 0
Fails s text cells entrants fought refusal = (setup : Setup) × (ws : List WarriorValue) × (fault : MatchFault)
    × IsSetup s text setup × AreEntrants setup.params cells entrants ws × (fought setup ws ≡ Err fault) × (refusal ≡ fight_refusal fault)

-- A battle may have `count` warriors.
abbrev pub AreWarriors : ℕ → Type 0
AreWarriors count = (1 ≤ count) × (count ≤ max_warriors)

-- `refusal` is the error `fault` of the settings, because a number is out of its range: `Fits` does not hold.
abbrev pub IsOutOfRange : SettingsFault → Type 0 → CallRefusal → Type 0
IsOutOfRange fault Fits refusal = (refusal ≡ Settings fault) × (Fits → ⊥)

-- `refusal` is the error of a match of the warriors.
abbrev pub FailsMatch : MarsSettings → List ℕ → List MarsCell → List MarsWarrior → CallRefusal → Type 0
FailsMatch s text cells entrants = Fails s text cells entrants (λ setup ws. table_of setup.params ws setup.formula setup.plan.fixed setup.plan.rounds setup.plan.seed)

-- `refusal` is the error of a league of the warriors.
abbrev pub FailsLeague : MarsSettings → List ℕ → List MarsCell → List MarsWarrior → CallRefusal → Type 0
FailsLeague s text cells entrants = Fails s text cells entrants (λ setup ws. league_of setup.params ws setup.formula setup.plan.fixed setup.plan.rounds setup.plan.seed)

-- `refusal` is the error of the start of the battle of round `round`.
abbrev pub FailsRound : MarsSettings → List MarsCell → List MarsWarrior → ℕ → CallRefusal → Type 0
FailsRound s cells entrants round = Fails s (codes "0") cells entrants (λ setup ws. round_start_state setup ws round)

-- `refusal` is the error of a population with `rows` candidates: the error of its first match that fails, or of the
-- first candidate whose whole sum does not fit.
abbrev pub FailsPopulation : MarsSettings → List ℕ → List MarsCell → List MarsWarrior → ℕ → CallRefusal → Type 0
FailsPopulation s text cells entrants rows = Fails s text cells entrants (λ setup ws. population setup rows ws)

-- `refusal` is a reason for which a match of the warriors, with `rows` rows of the caller, has no result.
abbrev pub RefusesMatch : MarsSettings → List ℕ → List MarsCell → List MarsWarrior → ℕ → CallRefusal → Type 0
RefusesMatch s text cells entrants rows refusal =
    IsOutOfRange Warriors (AreWarriors (length entrants)) refusal
    ⊎ IsOutOfRange Rows (rows ≡ length entrants) refusal
    ⊎ RefusesEntry s text (length entrants) cells entrants refusal
    ⊎ FailsMatch s text cells entrants refusal

-- `refusal` is a reason for which a league of the warriors, with `rows` rows of the caller, has no result. A league may not have a
-- position, so the position must fit battles of 0 warriors, which no position does.
abbrev pub RefusesLeague : MarsSettings → List ℕ → List MarsCell → List MarsWarrior → ℕ → CallRefusal → Type 0
RefusesLeague s text cells entrants rows refusal =
    IsOutOfRange Warriors (length entrants ≤ max_league_warriors) refusal
    ⊎ IsOutOfRange Rows (rows ≡ length entrants) refusal
    ⊎ RefusesEntry s text 0 cells entrants refusal
    ⊎ FailsLeague s text cells entrants refusal

-- `refusal` is a reason for which a population with `rows` candidates has no result. Its matches are of two warriors, so the
-- position must fit two.
abbrev pub RefusesPopulation : MarsSettings → List ℕ → List MarsCell → List MarsWarrior → ℕ → CallRefusal → Type 0
RefusesPopulation s text cells entrants rows refusal =
    IsOutOfRange Rows (rows ≤ length entrants) refusal
    ⊎ RefusesEntry s text 2 cells entrants refusal
    ⊎ FailsPopulation s text cells entrants rows refusal

-- `refusal` is a reason for which the battle of round `round` does not start.
abbrev pub RefusesRound : MarsSettings → List MarsCell → List MarsWarrior → ℕ → CallRefusal → Type 0
RefusesRound s cells entrants round refusal =
    IsOutOfRange Round (round < s.rounds) refusal
    ⊎ RefusesEntry s (codes "0") (length entrants) cells entrants refusal
    ⊎ FailsRound s cells entrants round refusal
