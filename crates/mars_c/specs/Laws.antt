-- The laws of the library: calls with the same arguments have the same results and the same errors, and all calls start a round with the
-- same battle.
use Rattle.std.specs.Prelude.{◌≡◌, ◌≤◌, ◌<◌, ◌%◌, ℕ, All, Bool, List, [], Ok, length, slice_index_or}
use Rattle.std.specs.List.{flat_map}
use Rattle.mars_core.specs.Limits.{max_warriors}
use Rattle.mars_app.specs.Debugging.{first_round}
use Rattle.mars_cell.specs.Warriors.{WarriorValue}
use Rattle.mars_core.specs.State.{State}
use Rattle.mars_match.specs.Battles.{end_of}
use Rattle.mars_match.specs.Fates.{deeds_of, fates_from, fates_of}
use Rattle.mars_match.specs.Leagues.{max_league_warriors}
use Rattle.mars_match.specs.declared.fates.Fate.{Fate}
use Rattle.mars_match.specs.declared.setup.Setup.{Setup}
use Rattle.mars_c.specs.Battles.{IsStart, placed_in, round_start_state}
use Rattle.mars_c.specs.Blocks.{HoldsStart, OverflowsStart, RefusesStart}
use Rattle.mars_c.specs.Contests.{HoldsLeague, HoldsMatch, HoldsSums}
use Rattle.mars_c.specs.Outcomes.{HoldsOutcomes, IsLineup, RefusesOutcomes, rows_for}
use Rattle.mars_c.specs.Refusals.{AreWarriors, RefusesLeague, RefusesMatch, RefusesPopulation}
use Rattle.mars_c.specs.declared.cells.MarsCell.{MarsCell}
use Rattle.mars_c.specs.declared.faults.CallRefusal.{CallRefusal}
use Rattle.mars_c.specs.declared.faults.CallRefusal.TheVariants.{OutOfMemory}
use Rattle.mars_c.specs.declared.outcomes.MarsLineup.{MarsLineup}
use Rattle.mars_c.specs.declared.outcomes.MarsOutcome.{MarsOutcome}
use Rattle.mars_c.specs.declared.rows.MarsRow.{MarsRow}
use Rattle.mars_c.specs.declared.settings.MarsSettings.{MarsSettings}
use Rattle.mars_c.specs.declared.warriors.MarsWarrior.{MarsWarrior}

-- There is only one table of a match.
abbrev pub EqualMatches : Type 0
EqualMatches = (settings : MarsSettings) (formula : List ℕ) (cells : List MarsCell) (entrants : List MarsWarrior) (one other : List MarsRow)
    → HoldsMatch settings formula cells entrants one → HoldsMatch settings formula cells entrants other → one ≡ other

-- There is only one table of a league.
abbrev pub EqualLeagues : Type 0
EqualLeagues = (settings : MarsSettings) (formula : List ℕ) (cells : List MarsCell) (entrants : List MarsWarrior) (one other : List MarsRow)
    → HoldsLeague settings formula cells entrants one → HoldsLeague settings formula cells entrants other → one ≡ other

-- There is only one list of sums of a population with a given number of candidates.
abbrev pub EqualPopulations : Type 0
EqualPopulations = (settings : MarsSettings) (formula : List ℕ) (cells : List MarsCell) (entrants : List MarsWarrior) (one other : List MarsRow)
    → length one ≡ length other
    → HoldsSums settings formula cells entrants one → HoldsSums settings formula cells entrants other → one ≡ other

-- There is only one list of outcomes of given lineups.
abbrev pub EqualOutcomes : Type 0
EqualOutcomes = (settings : MarsSettings) (cells : List MarsCell) (entrants : List MarsWarrior) (lineups : List MarsLineup) (one other : List MarsOutcome)
    → HoldsOutcomes settings cells entrants lineups one → HoldsOutcomes settings cells entrants lineups other → one ≡ other

-- There is only one battle with which a round starts.
abbrev pub EqualStarts : Type 0
EqualStarts = (settings : MarsSettings) (cells : List MarsCell) (entrants : List MarsWarrior) (round : ℕ) (one other : State)
    → IsStart settings cells entrants round one → IsStart settings cells entrants round other → one ≡ other

-- If a match has a table, a call with its arguments is refused only because memory ran out: errors of the settings, the formula, the
-- warriors and the match recur.
abbrev pub MatchErrorsRecur : Type 0
MatchErrorsRecur = (settings : MarsSettings) (formula : List ℕ) (cells : List MarsCell) (entrants : List MarsWarrior) (rows : List MarsRow) (refusal : CallRefusal)
    → AreWarriors (length entrants) → length rows ≡ length entrants
    → HoldsMatch settings formula cells entrants rows → RefusesMatch settings formula cells entrants (length rows) refusal → refusal ≡ OutOfMemory

-- If a league has a table, a call with its arguments is refused only because memory ran out.
abbrev pub LeagueErrorsRecur : Type 0
LeagueErrorsRecur = (settings : MarsSettings) (formula : List ℕ) (cells : List MarsCell) (entrants : List MarsWarrior) (rows : List MarsRow) (refusal : CallRefusal)
    → length entrants ≤ max_league_warriors → length rows ≡ length entrants
    → HoldsLeague settings formula cells entrants rows → RefusesLeague settings formula cells entrants (length rows) refusal → refusal ≡ OutOfMemory

-- If a population has sums, a call with its arguments is refused only because memory ran out.
abbrev pub PopulationErrorsRecur : Type 0
PopulationErrorsRecur = (settings : MarsSettings) (formula : List ℕ) (cells : List MarsCell) (entrants : List MarsWarrior) (rows : List MarsRow) (refusal : CallRefusal)
    → length rows ≤ length entrants
    → HoldsSums settings formula cells entrants rows → RefusesPopulation settings formula cells entrants (length rows) refusal → refusal ≡ OutOfMemory

-- If a battle can start, a call with its arguments is refused only because memory ran out.
abbrev pub StartErrorsRecur : Type 0
StartErrorsRecur = (settings : MarsSettings) (cells : List MarsCell) (entrants : List MarsWarrior) (round : ℕ) (start : State) (refusal : CallRefusal)
    → AreWarriors (length entrants)
    → IsStart settings cells entrants round start → RefusesStart settings cells entrants round refusal → refusal ≡ OutOfMemory

-- If lineups have outcomes, a call with their arguments is refused only because memory ran out. Each lineup has its warriors in an array
-- of 16.
abbrev pub OutcomeErrorsRecur : Type 0
OutcomeErrorsRecur = (settings : MarsSettings) (cells : List MarsCell) (entrants : List MarsWarrior) (lineups : List MarsLineup) (rows : List MarsOutcome) (refusal : CallRefusal)
    → All (λ (lineup : MarsLineup). IsLineup (length entrants) lineup) lineups → All (λ (lineup : MarsLineup). length lineup.warrior ≡ max_warriors) lineups
    → length rows ≡ rows_for settings lineups
    → HoldsOutcomes settings cells entrants lineups rows → RefusesOutcomes settings cells entrants lineups (length rows) refusal → refusal ≡ OutOfMemory

-- If a battle was started in the words `before`, they are enough for each call with the same arguments.
abbrev pub StartsFitAgain : Type 0
StartsFitAgain = (settings : MarsSettings) (cells : List MarsCell) (entrants : List MarsWarrior) (round : ℕ) (before after : List ℕ)
    → HoldsStart settings cells entrants round before after → OverflowsStart settings cells entrants round before → ⊥

-- The program debugs the battle with which round 0 of the match starts.
abbrev pub DebugsRoundZero : Type 0
DebugsRoundZero = (setup : Setup) (warriors : List WarriorValue) → first_round setup warriors ≡ round_start_state setup warriors 0

-- The fates of a match are the fates of its rounds, one after another. The fates of round `k` are those of the battle with which round `k`
-- starts, played to its end. So `mars_start`, the outcomes and, by the laws of matches, the table are about the same battle.
abbrev pub RoundsMakeTheFates : Type 0
RoundsMakeTheFates = (setup : Setup) (warriors : List WarriorValue) (counting : Bool) (all : List Fate)
    → fates_of counting setup.params warriors setup.plan.fixed setup.plan.rounds setup.plan.seed ≡ Ok all
    → (rounds : List (List Fate)) × (all ≡ flat_map (λ (round : List Fate). round) rounds) × (length rounds ≡ setup.plan.rounds)
    × ((k : ℕ) → k < setup.plan.rounds → (start : State) × (starts : List ℕ)
    × (placed_in setup.params (length warriors) setup.plan.fixed k setup.plan.seed ≡ Ok starts)
    × (round_start_state setup warriors k ≡ Ok start)
    × (slice_index_or rounds k [] ≡ fates_from (end_of start) (deeds_of counting start) (k % length warriors) 0 starts))
