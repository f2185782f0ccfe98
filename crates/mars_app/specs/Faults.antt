-- The error that ends a run, and what was written before it. `rounds` and `count` are the values of ROUNDS and WARRIORS, and `known` has
-- the content of each file by its name, if it is known.
use Rattle.std.specs.Prelude.{◌≡◌, ⊤, ◌⊎◌, ℕ, false, true, List, ◌∷◌, ◌++◌, Option, Ok, Err, string_bytes}
use Rattle.std.specs.Io.KnownBytes.{Keeps}
use Rattle.std.specs.List.{flat_map}
use Rattle.mars_cell.specs.Load.{load}
use Rattle.mars_cell.specs.ParameterFaults.{checked_parameters}
use Rattle.mars_cell.specs.Parameters.{Parameters}
use Rattle.mars_cell.specs.Warriors.{WarriorValue}
use Rattle.mars_cell.specs.Written.{load_text}
use Rattle.mars_cell.specs.declared.fault.LoadFault.{LoadFault}
use Rattle.mars_cell.specs.declared.fault.LoadFault.TheVariants as load_fault
use Rattle.mars_cell.specs.declared.parameters.ParamFault.{ParamFault}
use Rattle.mars_core.specs.State.{State}
use Rattle.redcode_asm.specs.Assembly.{assembly}
use Rattle.redcode_asm.specs.Formula.{formula_of}
use Rattle.redcode_asm.specs.declared.fault.FormulaFault.TheVariants.{Expression}
use Rattle.redcode_text.specs.Tokens.{Scanned}
use Rattle.redcode_text.specs.declared.fault.ExprFault.{ExprFault}
use Rattle.mars_app.specs.Contests.{ContestFails, contest, contest_size, listing}
use Rattle.mars_app.specs.Debugging.{DebugsInPart, StartsNothing, first_round, session_at}
use Rattle.mars_app.specs.Loading.{AreLoaded, IsRead, IsReadFault, is_load_file, max_file_len, shown_name}
use Rattle.mars_app.specs.Options.{AreBad, Ask, AskForHelp, OptionsValue, parameters_of}
use Rattle.mars_app.specs.Runs.{Asked}
use Rattle.mars_app.specs.Streams.{StreamsValue, Untouched, WritesInPart}
use Rattle.mars_app.specs.declared.fault.RunFault.{RunFault}
use Rattle.mars_app.specs.declared.fault.RunFault.TheVariants as fault
use Rattle.mars_app.specs.declared.files.FileFault.TheVariants as file

-- The line of an error in a load file, or 0 if the error has none.
abbrev pub line_of : LoadFault → ℕ
line_of (load_fault.Syntax line) = line
line_of _ = 0

-- The error is one of the content `bytes` of the file `name`, a load file or a source, and shows this name; or it is
-- `OutOfMemory`, which is always possible.
abbrev pub IsFaultOfFile : Parameters → ℕ → ℕ → List ℕ → List ℕ → RunFault → Type 0
IsFaultOfFile p rounds count name bytes (fault.Load shown line f) =
    (string_bytes shown ≡ shown_name name) × (is_load_file name ≡ true) × (load p.core_size p.max_length bytes ≡ Err f) × (line ≡ line_of f)
IsFaultOfFile p rounds count name bytes (fault.Assembly shown line f) =
    (string_bytes shown ≡ shown_name name) × (is_load_file name ≡ false) × (assembly p rounds count bytes ≡ Err f) × (line ≡ f.line)
IsFaultOfFile p rounds count name bytes fault.OutOfMemory = ⊤
IsFaultOfFile p rounds count name bytes _ = ⊥

-- The error is the reason for which the file `name` is not read, and shows this name; or it is `OutOfMemory`.
abbrev pub IsReadFaultOfFile : (List ℕ → Option (List ℕ)) → List ℕ → RunFault → Type 0
IsReadFaultOfFile known name (fault.CannotRead shown) = (string_bytes shown ≡ shown_name name) × IsReadFault (known name) max_file_len file.CannotRead
IsReadFaultOfFile known name (fault.TooLarge shown) = (string_bytes shown ≡ shown_name name) × IsReadFault (known name) max_file_len file.TooLarge
IsReadFaultOfFile known name fault.OutOfMemory = ⊤
IsReadFaultOfFile known name _ = ⊥

-- The file `name` is not read, or has no warrior; `f` is the error.
abbrev pub FailsToLoad : (List ℕ → Option (List ℕ)) → Parameters → ℕ → ℕ → List ℕ → RunFault → Type 0
FailsToLoad known p rounds count name f = IsReadFaultOfFile known name f
    ⊎ ((bytes : List ℕ) × IsRead known name bytes × IsFaultOfFile p rounds count name bytes f)

-- The first file that fails has the error `f`; the files before it have warriors.
pub record FirstFails (known : List ℕ → Option (List ℕ)) (p : Parameters) (rounds count : ℕ) (names : List (List ℕ)) (f : RunFault) : Type 0 where
  pub before : List (List ℕ)
  pub name : List ℕ
  pub after : List (List ℕ)
  pub parts : names ≡ before ++ name ∷ after
  pub warriors : List WarriorValue
  pub loaded : AreLoaded known p rounds count before warriors
  pub fails : FailsToLoad known p rounds count name f

-- The run ended with the error `f`. Either nothing was read or written, because the arguments are bad, an allocation failed,
-- the parameters are out of range, the formula has an error, or a file fails; or writing the help or a load file failed; or the
-- debugger, the match or the league ended with an error. Only the debugger reads the input.
pub data RunFails (words : List (List ℕ)) (known : List ℕ → Option (List ℕ)) (old new : StreamsValue) (f : RunFault) : Type 0 where
  bad : f ≡ fault.Words → AreBad words → Untouched old new → RunFails words known old new f
  starved : f ≡ fault.OutOfMemory → Untouched old new → RunFails words known old new f
  unhelped : f ≡ fault.Output → AskForHelp words → (text : List ℕ) → WritesInPart old new text → RunFails words known old new f
  not_allowed : (o : OptionsValue) → Ask words o → (e : ParamFault) → checked_parameters (parameters_of o) ≡ Err e
      → f ≡ fault.Parameters e → Untouched old new → RunFails words known old new f
  not_scored : (o : OptionsValue) → Ask words o → (p : Parameters) → checked_parameters (parameters_of o) ≡ Ok p
      → (e : ExprFault) → formula_of o.score ≡ Err e → f ≡ fault.Formula (Expression e) → Untouched old new → RunFails words known old new f
  not_loaded : (o : OptionsValue) → Ask words o → (p : Parameters) → checked_parameters (parameters_of o) ≡ Ok p
      → (s : Scanned) → formula_of o.score ≡ Ok s
      → FirstFails known p o.rounds (contest_size o) o.files f → Untouched old new → RunFails words known old new f
  not_written : (asked : Asked words known) → asked.options.load ≡ true → f ≡ fault.Output
      → WritesInPart old new (flat_map (load_text asked.setup.params.core_size) asked.warriors) → RunFails words known old new f
  not_debugged : (asked : Asked words known) → asked.options.load ≡ false → asked.options.debugger ≡ true
      → StartsNothing f (first_round asked.setup asked.warriors) old new
      ⊎ ((s : State) × (first_round asked.setup asked.warriors ≡ Ok s) × DebugsInPart f (session_at asked.options.history s) old new)
      → RunFails words known old new f
  not_contested : (asked : Asked words known) → asked.options.load ≡ false → asked.options.debugger ≡ false → Keeps old.unread new.unread
      → ContestFails f (contest asked.options.league asked.setup asked.warriors) asked.options.sorted old.written new.written
      (listing asked.setup.params.core_size asked.options.brief asked.warriors) → RunFails words known old new f
