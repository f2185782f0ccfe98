-- How each warrior fares in each round of many matches.
use Rattle.std.specs.Prelude.{◌≡◌, ◌*◌, ◌++◌, ◌==◌, ◌<◌, ◌⊎◌, ℕ, All, Bool, List, [], ◌∷◌, Some, Ok, Err, if◌then◌else◌, length, map, not, slice_get, sum_by, take}
use Rattle.mars_cell.specs.Parameters.{Parameters}
use Rattle.mars_cell.specs.ParameterFaults.{checked_parameters}
use Rattle.mars_cell.specs.Warriors.{WarriorValue}
use Rattle.mars_match.specs.Fates.{fates_of}
use Rattle.mars_match.specs.Placement.{FitsTwo}
use Rattle.mars_match.specs.declared.fates.Fate.{Fate}
use Rattle.mars_match.specs.declared.fault.MatchFault.{MatchFault}
use Rattle.mars_match.specs.declared.setup.Plan.{Plan}
use Rattle.mars_c.specs.Entrants.{AreEntrants}
use Rattle.mars_c.specs.Refusals.{AreWarriors, IsOutOfRange, RefusesPlan, RefusesWarriors, fight_refusal}
use Rattle.mars_c.specs.Settings.{IsPlan, parameters_in}
use Rattle.mars_c.specs.declared.cells.MarsCell.{MarsCell}
use Rattle.mars_c.specs.declared.faults.CallRefusal.{CallRefusal}
use Rattle.mars_c.specs.declared.faults.CallRefusal.TheVariants.{Lineup}
use Rattle.mars_c.specs.declared.ranges.LineupFault.{LineupFault}
use Rattle.mars_c.specs.declared.ranges.LineupFault.TheVariants.{Count, Index}
use Rattle.mars_c.specs.declared.outcomes.MarsLineup.{MarsLineup}
use Rattle.mars_c.specs.declared.outcomes.MarsOutcome.{MarsOutcome}
use Rattle.mars_c.specs.declared.ranges.SettingsFault.TheVariants.{Rows}
use Rattle.mars_c.specs.declared.settings.MarsSettings.{MarsSettings}
use Rattle.mars_c.specs.declared.warriors.MarsWarrior.{MarsWarrior}

-- A fate as numbers.
abbrev pub plain_fate : Fate → MarsOutcome
plain_fate fate = record {
  survived = if fate.survived then 1 else 0;
  turns = fate.turns;
  start = fate.start;
  own_turns = fate.counts.turns;
  spawned = fate.counts.spawned;
  executed = fate.counts.executed;
  written = fate.counts.written;
  touched = fate.counts.touched;
}

-- The settings `s` with the seed `seed`, unless `seed` is 0.
abbrev pub seeded : MarsSettings → ℕ → MarsSettings
seeded s seed = record {
  core = s.core;
  processes = s.processes;
  cycles = s.cycles;
  read_limit = s.read_limit;
  write_limit = s.write_limit;
  longest = s.longest;
  distance = s.distance;
  rounds = s.rounds;
  seed = if seed == 0 then s.seed else seed;
  position = s.position;
}

-- The lineup requests counts of what each warrior does.
abbrev pub is_counting : MarsLineup → Bool
is_counting lineup = not (lineup.counting == 0)

-- The indices of the warriors of a lineup.
abbrev pub indices_of : MarsLineup → List ℕ
indices_of lineup = take lineup.count lineup.warrior

-- The lineup has 1 to 16 warriors, whose indices are below `count`.
pub record IsLineup (count : ℕ) (lineup : MarsLineup) : Type 0 where
  pub warriors : AreWarriors lineup.count
  pub indices : All (λ i. i < count) (indices_of lineup)

-- The error is a reason for which a lineup is wrong: the number of its warriors is out of range, or an index is.
abbrev pub IsNoLineup : ℕ → MarsLineup → LineupFault → Type 0
IsNoLineup count lineup Count = AreWarriors lineup.count → ⊥
IsNoLineup count lineup Index = All (λ i. i < count) (indices_of lineup) → ⊥

-- `refusal` is the error of the first wrong lineup, with its index.
abbrev pub IsWrongLineup : ℕ → List MarsLineup → CallRefusal → Type 0
IsWrongLineup count lineups refusal = (index : ℕ) × (lineup : MarsLineup) × (fault : LineupFault)
    × All (IsLineup count) (take index lineups)
    × (slice_get lineups index ≡ Some lineup) × IsNoLineup count lineup fault × (refusal ≡ Lineup index fault)

-- `chosen` are the warriors of `ws` at `indices`.
abbrev pub AreChosen : List WarriorValue → List ℕ → List WarriorValue → Type 0
AreChosen ws indices chosen = map (λ i. slice_get ws i) indices ≡ map (λ w. Some w) chosen

-- `fates` are the fates of all rounds of a lineup's match.
abbrev pub IsFought : MarsSettings → List WarriorValue → MarsLineup → List Fate → Type 0
IsFought s ws lineup fates = (p : Parameters) × (plan : Plan) × (chosen : List WarriorValue)
    × (checked_parameters (parameters_in s) ≡ Ok p) × IsPlan (seeded s lineup.seed) plan × AreChosen ws (indices_of lineup) chosen × FitsTwo p (length chosen) plan.fixed
    × (fates_of (is_counting lineup) p chosen plan.fixed plan.rounds plan.seed ≡ Ok fates)

-- `fates` are the fates of the matches of all lineups, one match after another.
abbrev pub AreFought : MarsSettings → List WarriorValue → List MarsLineup → List Fate → Type 0
AreFought s ws [] fates = fates ≡ []
AreFought s ws (lineup ∷ lineups) fates = (first : List Fate) × (others : List Fate) × IsFought s ws lineup first × AreFought s ws lineups others × (fates ≡ first ++ others)

-- The caller's places hold the fates of the matches of all lineups.
abbrev pub HoldsOutcomes : MarsSettings → List MarsCell → List MarsWarrior → List MarsLineup → List MarsOutcome → Type 0
HoldsOutcomes s cells entrants lineups places = (p : Parameters) × (ws : List WarriorValue) × (fates : List Fate)
    × (checked_parameters (parameters_in s) ≡ Ok p) × AreEntrants p cells entrants ws × AreFought s ws lineups fates × (places ≡ map plain_fate fates)

-- The number of fates of the matches of all lineups.
abbrev pub rows_for : MarsSettings → List MarsLineup → ℕ
rows_for s lineups = sum_by (λ (lineup : MarsLineup). s.rounds * lineup.count) lineups

-- `refusal` is a reason for which a lineup's match has no fates: the error of its plan, or of its first round with an error.
abbrev pub RefusesLineup : MarsSettings → List WarriorValue → MarsLineup → CallRefusal → Type 0
RefusesLineup s ws lineup refusal =
    RefusesPlan (seeded s lineup.seed) lineup.count refusal
    ⊎ ((p : Parameters) × (plan : Plan) × (chosen : List WarriorValue) × (fault : MatchFault)
    × (checked_parameters (parameters_in s) ≡ Ok p) × IsPlan (seeded s lineup.seed) plan × AreChosen ws (indices_of lineup) chosen
    × (fates_of (is_counting lineup) p chosen plan.fixed plan.rounds plan.seed ≡ Err fault) × (refusal ≡ fight_refusal fault))

-- `refusal` is a reason for which the first lineup with an error has no fates. The lineups before it are fought.
abbrev pub IsFirstFailure : MarsSettings → List WarriorValue → List MarsLineup → CallRefusal → Type 0
IsFirstFailure s ws lineups refusal = (index : ℕ) × (lineup : MarsLineup) × (before : List Fate)
    × AreFought s ws (take index lineups) before × (slice_get lineups index ≡ Some lineup) × RefusesLineup s ws lineup refusal

-- `refusal` is a reason for which the match of one of the lineups has no fates.
abbrev pub FailsLineup : MarsSettings → List MarsCell → List MarsWarrior → List MarsLineup → CallRefusal → Type 0
FailsLineup s cells entrants lineups refusal = (p : Parameters) × (ws : List WarriorValue)
    × (checked_parameters (parameters_in s) ≡ Ok p) × AreEntrants p cells entrants ws × IsFirstFailure s ws lineups refusal

-- Each lineup is right, and there is a place for each fate.
abbrev pub AreInRange : MarsSettings → List MarsWarrior → List MarsLineup → ℕ → Type 0
AreInRange s entrants lineups places = All (IsLineup (length entrants)) lineups × (places ≡ rows_for s lineups)

-- `refusal` is the first reason for which no fates are returned: a lineup is wrong, the number of places is not the
-- number of fates, or the parameters or the warriors are rejected or a match fails. An allocation fails only if the
-- lineups and the places are right.
abbrev pub RefusesOutcomes : MarsSettings → List MarsCell → List MarsWarrior → List MarsLineup → ℕ → CallRefusal → Type 0
RefusesOutcomes s cells entrants lineups places refusal =
    IsWrongLineup (length entrants) lineups refusal
    ⊎ (All (IsLineup (length entrants)) lineups × IsOutOfRange Rows (places ≡ rows_for s lineups) refusal)
    ⊎ (AreInRange s entrants lineups places × (RefusesWarriors s cells entrants refusal ⊎ FailsLineup s cells entrants lineups refusal))
