-- Why options are rejected, and how debugging, a match or a league ends.
use Rattle.std.specs.Prelude.{◌≡◌, ◌⊎◌, false, true, List, ◌++◌, Ok, Err}
use Rattle.std.specs.Io.KnownBytes.{Keeps}
use Rattle.mars_cell.specs.ParameterFaults.{checked_parameters}
use Rattle.mars_cell.specs.Parameters.{Parameters}
use Rattle.mars_cell.specs.Warriors.{WarriorValue}
use Rattle.mars_cell.specs.declared.parameters.ParamFault.{ParamFault}
use Rattle.mars_core.specs.State.{State}
use Rattle.mars_match.specs.Results.{results_text}
use Rattle.mars_match.specs.Tables.{RowValue}
use Rattle.mars_match.specs.declared.setup.Setup.{Setup}
use Rattle.redcode_asm.specs.Formula.{formula_of}
use Rattle.redcode_asm.specs.declared.fault.FormulaFault.TheVariants.{Expression}
use Rattle.redcode_text.specs.declared.fault.ExprFault.{ExprFault}
use Rattle.mars_app.specs.Contests.{ContestFails, contest, listing}
use Rattle.mars_app.specs.Debugging.{DebugsInPart, DebugSucceeds, StartsNothing, first_round, session_at}
use Rattle.mars_app.specs.Options.{OptionsValue, parameters_of}
use Rattle.mars_app.specs.Streams.{StreamsValue, Writes}
use Rattle.mars_app.specs.declared.fault.RunFault.{RunFault}
use Rattle.mars_app.specs.declared.fault.RunFault.TheVariants as fault

-- `f` is a reason for which the options are rejected: an allocation fails, the parameters are out of range, or the formula has
-- an error.
abbrev pub IsRefused : OptionsValue → RunFault → Type 0
IsRefused o f = (f ≡ fault.OutOfMemory)
    ⊎ (((e : ParamFault) × (checked_parameters (parameters_of o) ≡ Err e) × (f ≡ fault.Parameters e))
    ⊎ ((p : Parameters) × (checked_parameters (parameters_of o) ≡ Ok p)
    × (e : ExprFault) × (formula_of o.score ≡ Err e) × (f ≡ fault.Formula (Expression e))))

-- The battle of the first round was debugged, or the match or league was run, without an error.
abbrev pub PlaySucceeds : OptionsValue → Setup → List WarriorValue → StreamsValue → StreamsValue → Type 0
PlaySucceeds o setup ws old new =
    ((o.debugger ≡ true) × (s : State) × (first_round setup ws ≡ Ok s) × DebugSucceeds (session_at o.history s) old new)
    ⊎ ((o.debugger ≡ false) × (rows : List RowValue) × (contest o.league setup ws ≡ Ok rows)
    × Writes old new (listing setup.params.core_size o.brief ws ++ results_text rows o.sorted))

-- Debugging, or the match or league, ended with the error `f`.
abbrev pub PlaysInPart : OptionsValue → Setup → List WarriorValue → StreamsValue → StreamsValue → RunFault → Type 0
PlaysInPart o setup ws old new f =
    ((o.debugger ≡ true) × (StartsNothing f (first_round setup ws) old new
    ⊎ ((s : State) × (first_round setup ws ≡ Ok s) × DebugsInPart f (session_at o.history s) old new)))
    ⊎ ((o.debugger ≡ false) × Keeps old.unread new.unread × ContestFails f (contest o.league setup ws) o.sorted
    old.written new.written (listing setup.params.core_size o.brief ws))
