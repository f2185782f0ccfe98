-- The error of a run that reports the error of a load file or of a source.
use Rattle.std.specs.Prelude.{◌≡◌, ⊤, ℕ, List, string_bytes}
use Rattle.mars_cell.specs.declared.fault.LoadFault.{LoadFault}
use Rattle.mars_cell.specs.declared.fault.LoadFault.TheVariants as load_fault
use Rattle.redcode_asm.specs.declared.fault.AsmFault.{AsmFault}
use Rattle.redcode_asm.specs.declared.fault.AsmProblem.TheVariants as problem
use Rattle.mars_app.specs.Faults.{line_of}
use Rattle.mars_app.specs.Loading.{shown_name}
use Rattle.mars_app.specs.declared.fault.RunFault.{RunFault}
use Rattle.mars_app.specs.declared.fault.RunFault.TheVariants as fault

-- The error of the run reports the error `f` of the load file `name` and shows this name, or is `OutOfMemory`.
abbrev pub IsLoadFault : List ℕ → LoadFault → RunFault → Type 0
IsLoadFault name f (fault.Load shown line g) = (string_bytes shown ≡ shown_name name) × (g ≡ f) × (f ≡ load_fault.OutOfMemory → ⊥) × (line ≡ line_of f)
IsLoadFault name f fault.OutOfMemory = ⊤
IsLoadFault name f _ = ⊥

-- The error of the run reports the error `f` of the source `name` and shows this name, or is `OutOfMemory`.
abbrev pub IsAssemblyFault : List ℕ → AsmFault → RunFault → Type 0
IsAssemblyFault name f (fault.Assembly shown line g) = (string_bytes shown ≡ shown_name name) × (g ≡ f) × (f.problem ≡ problem.OutOfMemory → ⊥) × (line ≡ f.line)
IsAssemblyFault name f fault.OutOfMemory = ⊤
IsAssemblyFault name f _ = ⊥
