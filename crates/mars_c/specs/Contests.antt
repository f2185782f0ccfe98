-- The results of matches, leagues and populations, and the value of a score formula. Parameters: `s` are the caller's settings, `text` is
-- the formula, `cells` and `entrants` are the caller's warriors, and `place` are the caller's rows.
use Rattle.std.specs.Prelude.{◌≡◌, ◌==◌, ℕ, ℤ, if◌then◌else◌, pos, drop, List, map, None, Ok, Result, take, length}
use Rattle.mars_cell.specs.Warriors.{WarriorValue}
use Rattle.mars_match.specs.Leagues.{league_of}
use Rattle.mars_match.specs.Populations.{population_of}
use Rattle.mars_match.specs.Rounds.{table_of}
use Rattle.mars_match.specs.Tables.{RowValue}
use Rattle.mars_match.specs.declared.fault.MatchFault.{MatchFault}
use Rattle.mars_match.specs.declared.setup.Setup.{Setup}
use Rattle.mars_match.specs.declared.table.Sum.{Sum}
use Rattle.mars_match.specs.Placement.{FitsTwo}
use Rattle.redcode_asm.specs.Formula.{formula_of, score_of}
use Rattle.redcode_text.specs.Tokens.{Scanned}
use Rattle.redcode_text.specs.declared.fault.ExprFault.{ExprFault}
use Rattle.mars_c.specs.Settings.{IsSetup}
use Rattle.mars_c.specs.Entrants.{AreEntrants}
use Rattle.mars_c.specs.declared.cells.MarsCell.{MarsCell}
use Rattle.mars_c.specs.declared.warriors.MarsWarrior.{MarsWarrior}
use Rattle.mars_c.specs.declared.rows.MarsRow.{MarsRow}
use Rattle.mars_c.specs.declared.settings.MarsSettings.{MarsSettings}

-- The points of each survivor of a round of `warriors` warriors with `survivors` survivors. Without survivors they are
-- 0, whatever the formula is.
abbrev pub points_each : Scanned → ℕ → ℕ → Result ℤ ExprFault
points_each formula warriors survivors = if survivors == 0 then Ok (pos 0) else score_of formula (pos warriors) (pos survivors)

-- `points` are the points of each of `survivors` survivors of `warriors` warriors by the formula `text`.
abbrev pub IsScore : List ℕ → ℕ → ℕ → ℤ → Type 0
IsScore text warriors survivors points = (formula : Scanned) × (formula_of text ≡ Ok formula) × (points_each formula warriors survivors ≡ Ok points)

-- A row as numbers.
abbrev pub plain_row : RowValue → MarsRow
plain_row row = record { points = row.points; wins = row.wins; ties = row.ties; losses = row.losses }

-- `rows` is the table of a match of the warriors, with the settings and the formula.
abbrev pub IsMatch : MarsSettings → List ℕ → List MarsCell → List MarsWarrior → List RowValue → Type 0
IsMatch s text cells entrants rows = (setup : Setup) × (ws : List WarriorValue)
    × IsSetup s text setup × AreEntrants setup.params cells entrants ws × FitsTwo setup.params (length ws) setup.plan.fixed
    × (table_of setup.params ws setup.formula setup.plan.fixed setup.plan.rounds setup.plan.seed ≡ Ok rows)

-- `rows` is the table of a league of the warriors, with the settings and the formula. The settings may not have a position.
abbrev pub IsLeague : MarsSettings → List ℕ → List MarsCell → List MarsWarrior → List RowValue → Type 0
IsLeague s text cells entrants rows = (setup : Setup) × (ws : List WarriorValue)
    × IsSetup s text setup × AreEntrants setup.params cells entrants ws × (setup.plan.fixed ≡ None)
    × (league_of setup.params ws setup.formula None setup.plan.rounds setup.plan.seed ≡ Ok rows)

-- The caller's rows hold the table of a match.
abbrev pub HoldsMatch : MarsSettings → List ℕ → List MarsCell → List MarsWarrior → List MarsRow → Type 0
HoldsMatch s text cells entrants place = (rows : List RowValue) × IsMatch s text cells entrants rows × (place ≡ map plain_row rows)

-- The caller's rows hold the table of a league.
abbrev pub HoldsLeague : MarsSettings → List ℕ → List MarsCell → List MarsWarrior → List MarsRow → Type 0
HoldsLeague s text cells entrants place = (rows : List RowValue) × IsLeague s text cells entrants rows × (place ≡ map plain_row rows)

-- The sums of a population: the first `candidates` warriors of `ws` are the candidates, and the others their opponents.
abbrev pub population : Setup → ℕ → List WarriorValue → Result (List Sum) MatchFault
population setup candidates ws = population_of setup.params setup.formula setup.plan.fixed setup.plan.rounds setup.plan.seed (drop candidates ws) (take candidates ws)

-- A sum as numbers.
abbrev pub plain_sum : Sum → MarsRow
plain_sum sum = record { points = sum.points; wins = sum.wins; ties = sum.ties; losses = sum.losses }

-- The caller's rows hold the sums of a population, one for each candidate: there are as many candidates as rows.
abbrev pub HoldsSums : MarsSettings → List ℕ → List MarsCell → List MarsWarrior → List MarsRow → Type 0
HoldsSums s text cells entrants place = (setup : Setup) × (ws : List WarriorValue) × (sums : List Sum)
    × IsSetup s text setup × AreEntrants setup.params cells entrants ws × FitsTwo setup.params 2 setup.plan.fixed
    × (population setup (length place) ws ≡ Ok sums) × (place ≡ map plain_sum sums)
