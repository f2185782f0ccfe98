-- The parameters and the setup that settings describe.
use Rattle.std.specs.Prelude.{◌≡◌, ◌≤◌, ◌==◌, ℕ, if◌then◌else◌, List, None, Ok, Option, Some}
use Rattle.mars_cell.specs.Parameters.{Parameters}
use Rattle.mars_cell.specs.ParameterFaults.{checked_parameters}
use Rattle.mars_app.specs.Limits.{max_rounds}
use Rattle.mars_match.specs.declared.setup.Plan.{Plan}
use Rattle.mars_match.specs.declared.setup.Setup.{Setup}
use Rattle.redcode_asm.specs.Formula.{formula_of}
use Rattle.mars_c.specs.declared.settings.MarsSettings.{MarsSettings}

-- A read or write limit: 0 stands for the core size.
abbrev pub limit_of : ℕ → ℕ → ℕ
limit_of limit core = if limit == 0 then core else limit

-- The parameters of settings.
abbrev pub parameters_in : MarsSettings → Parameters
parameters_in s = record {
  core_size = s.core;
  processes = s.processes;
  cycles = s.cycles;
  read_limit = limit_of s.read_limit s.core;
  write_limit = limit_of s.write_limit s.core;
  max_length = s.longest;
  distance = s.distance;
}

-- A position: 0 stands for none.
abbrev pub position_of : ℕ → Option ℕ
position_of position = if position == 0 then None else Some position

-- A match may have `rounds` rounds.
abbrev pub AreRounds : ℕ → Type 0
AreRounds rounds = (1 ≤ rounds) × (rounds ≤ max_rounds)

-- The first round of a match may have the seed `seed`.
abbrev pub IsSeed : ℕ → Type 0
IsSeed seed = (1 ≤ seed) × (seed ≤ 2147483646)

-- `plan` is what the settings `s` describe.
pub record IsPlan (s : MarsSettings) (plan : Plan) : Type 0 where
  pub rounds : plan.rounds ≡ s.rounds
  pub seed : plan.seed ≡ s.seed
  pub fixed : plan.fixed ≡ position_of s.position
  pub rounds_allowed : AreRounds s.rounds
  pub seed_allowed : IsSeed s.seed

-- `setup` is what the settings `s` and the formula `text` describe.
pub record IsSetup (s : MarsSettings) (text : List ℕ) (setup : Setup) : Type 0 where
  pub params : checked_parameters (parameters_in s) ≡ Ok setup.params
  pub plan : IsPlan s setup.plan
  pub formula : formula_of text ≡ Ok setup.formula
