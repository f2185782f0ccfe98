-- Examples of the listing, of limits that are not given, of leagues and matches, and of the exit statuses of errors.
use Rattle.std.specs.Prelude.{◌≡◌, List, [], ◌∷◌, ◌++◌, None, true, false, codes, refl}
use Rattle.std.specs.Fmt.{digits}
use Rattle.mars_cell.specs.declared.instruction.Op.TheVariants.{Mov}
use Rattle.mars_cell.specs.declared.instruction.Modifier.TheVariants.{I}
use Rattle.mars_cell.specs.declared.instruction.Mode.TheVariants.{Direct}
use Rattle.mars_cell.specs.Warriors.{WarriorValue}
use Rattle.mars_match.specs.declared.setup.Setup.{Setup}
use Rattle.mars_match.specs.Leagues.{league_of}
use Rattle.mars_match.specs.Rounds.{table_of}
use Rattle.mars_cell.specs.declared.parameters.ParamFault.TheVariants.{CoreSize}
use Rattle.mars_core.specs.declared.battle.start.BattleFault.TheVariants.{Overlap}
use Rattle.mars_match.specs.declared.placement.PlaceFault.TheVariants.{BadSeed}
use Rattle.redcode_text.specs.declared.fault.ExprFault.TheVariants.{Syntax, Range}
use Rattle.redcode_asm.specs.declared.fault.FormulaFault.TheVariants.{Expression}
use Rattle.mars_app.specs.declared.fault.RunFault.TheVariants as fault
use Rattle.mars_app.specs.Contests.{contest, contest_size, listing, listing_head}
use Rattle.mars_app.specs.Options.{OptionsValue, parameters_of}
use Rattle.mars_app.specs.Status.{status_of}

abbrev imp : WarriorValue
imp = record {
  name = codes "Imp";
  author = codes "Dewdney";
  cells = record { op = Mov; modifier = I; a_mode = Direct; a = 0; b_mode = Direct; b = 1 } ∷ [];
  start = 0;
}

-- Each warrior has its load file and an empty line.
pub warriors_are_listed : listing 8000 false (imp ∷ imp ∷ []) ≡
    codes "warrior 0: Imp by Dewdney, 1 instructions\n;load 2 8000\n;name Imp\n;author Dewdney\nORG 0\nMOV.I $0, $1\n\n"
    ++ codes "warrior 1: Imp by Dewdney, 1 instructions\n;load 2 8000\n;name Imp\n;author Dewdney\nORG 0\nMOV.I $0, $1\n\n"
unfolding listing_head digits
warriors_are_listed = refl

pub brief_contests_list_nothing : listing 8000 true (imp ∷ imp ∷ []) ≡ []
brief_contests_list_nothing = refl

-- A limit that is not given is the core size.
pub limits_are_the_core : (o : OptionsValue) → let p = parameters_of (record o { core = 8; longest = 3; read_limit = None; write_limit = None }) in (p.read_limit ≡ 8) × (p.write_limit ≡ 8) × (p.max_length ≡ 3)
limits_are_the_core o = (refl, refl, refl)

-- With `league` each pair of warriors plays a match, otherwise all warriors play one match.
pub a_league_or_a_match : (o : OptionsValue) (setup : Setup) (warriors : List WarriorValue) →
    let p = setup.params in
    let plan = setup.plan in
    (contest true setup warriors ≡ league_of p warriors setup.formula plan.fixed plan.rounds plan.seed)
    × (contest_size (record o { league = true }) ≡ 2)
    × (contest false setup warriors ≡ table_of p warriors setup.formula plan.fixed plan.rounds plan.seed)
a_league_or_a_match o setup warriors = (refl, refl, refl)

-- The status is 2 if the arguments have an error, otherwise 1.
pub statuses : (status_of fault.Words ≡ 2)
    × (status_of (fault.Parameters CoreSize) ≡ 2)
    × (status_of (fault.Formula (Expression Syntax)) ≡ 2)
    × (status_of (fault.Placement BadSeed) ≡ 1)
    × (status_of (fault.Battle Overlap) ≡ 1)
    × (status_of (fault.Score Range) ≡ 1)
    × (status_of fault.OutOfMemory ≡ 1)
    × (status_of fault.Output ≡ 1)
    × (status_of fault.Commands ≡ 1)
statuses = (refl, refl, refl, refl, refl, refl, refl, refl, refl)
