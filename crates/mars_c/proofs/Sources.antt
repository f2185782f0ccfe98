-- A source that is not assembled has its own error, unless memory ran out.
use Rattle.std.proofs.Common.{◌≡◌, ℕ, List, Ok}
use Rattle.mars_cell.specs.Parameters.{Parameters}
use Rattle.mars_cell.specs.ParameterFaults.{checked_parameters}
use Rattle.redcode_asm.specs.Assembly.{assembly}
use Rattle.redcode_asm.specs.Outcomes.{FailsAt}
use Rattle.redcode_asm.specs.declared.fault.AsmFault.{AsmFault}
use Rattle.redcode_asm.specs.declared.fault.AsmProblem.{AsmProblem}
use Rattle.redcode_asm.specs.declared.fault.AsmProblem.TheVariants.{Text, Operation, Operand, Expression, AssertFailed, BadOrigin, Empty, TooLong, OutOfMemory}
use Rattle.mars_c.specs.Settings.{parameters_in}
use Rattle.mars_c.specs.Refusals.{RefusesSource, refusal_at}
use Rattle.mars_c.specs.declared.settings.MarsSettings.{MarsSettings}

pub refuses : (s : MarsSettings) (p : Parameters) (warriors : ℕ) (source : List ℕ) (problem : AsmProblem) (fault : AsmFault)
    → checked_parameters (parameters_in s) ≡ Ok p → FailsAt problem fault (assembly p s.rounds warriors source)
    → RefusesSource s warriors source (refusal_at problem fault)
refuses s p warriors source OutOfMemory fault checked fails = tt
refuses s p warriors source (Text problem) fault checked fails = (p, checked, fails)
refuses s p warriors source Operation fault checked fails = (p, checked, fails)
refuses s p warriors source Operand fault checked fails = (p, checked, fails)
refuses s p warriors source (Expression problem) fault checked fails = (p, checked, fails)
refuses s p warriors source AssertFailed fault checked fails = (p, checked, fails)
refuses s p warriors source BadOrigin fault checked fails = (p, checked, fails)
refuses s p warriors source Empty fault checked fails = (p, checked, fails)
refuses s p warriors source TooLong fault checked fails = (p, checked, fails)
