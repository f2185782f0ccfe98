-- Examples: parameters and programs that are accepted, the errors of others, and the fields of a cell.
use Rattle.std.specs.Prelude.{◌≡◌, ℕ, List, [], ◌∷◌, Ok, Err, refl}
use Rattle.std.proofs.lemmas.Bool.{le-leb}
use Rattle.mars_cell.specs.declared.instruction.Field.TheVariants.{ANumber, BNumber}
use Rattle.mars_cell.specs.declared.instruction.Cell.{Cell}
use Rattle.mars_cell.specs.declared.instruction.Op.TheVariants as op
use Rattle.mars_cell.specs.declared.instruction.Modifier.TheVariants as modifier
use Rattle.mars_cell.specs.declared.instruction.Mode.TheVariants.{Direct}
use Rattle.mars_cell.specs.declared.parameters.ParamFault.{ParamFault}
use Rattle.mars_cell.specs.declared.parameters.ParamFault.TheVariants.{CoreSize, Processes, Cycles, Limit, Length, Distance}
use Rattle.mars_cell.specs.declared.warriors.WarriorFault.TheVariants as warrior
use Rattle.mars_cell.specs.Cells.{empty_cell, field_of, with_field}
use Rattle.mars_cell.specs.Limits.{max_core_size, max_cycles, max_processes}
use Rattle.mars_cell.specs.Parameters.{AreInRange, Parameters}
use Rattle.mars_cell.specs.ParameterFaults.{checked_parameters}
use Rattle.mars_cell.specs.Warriors.{WarriorValue}
use Rattle.mars_cell.specs.WarriorFaults.{checked_warrior}
use Rattle.mars_cell.specs.Examples.Cells.{cell, nop}

-- The parameters in order: core size, processes, cycles, read limit, write limit, maximum length, minimum distance.
abbrev of_sizes : ℕ → ℕ → ℕ → ℕ → ℕ → ℕ → ℕ → Parameters
of_sizes m p c r w l d = record { core_size = m; processes = p; cycles = c; read_limit = r; write_limit = w; max_length = l; distance = d }

abbrev Taken : Parameters → Type 0
Taken p = checked_parameters p ≡ Ok p

abbrev Refused : Parameters → ParamFault → Type 0
Refused p fault = checked_parameters p ≡ Err fault

-- The minimum and the maximum of each parameter are accepted.
pub parameters_are_taken :
    Taken (of_sizes 1 1 1 1 1 1 1)
    × Taken (of_sizes 1048576 65536 10000000 1048576 1048576 1048576 1048576)
    × Taken (of_sizes 8000 8000 80000 8000 4000 100 100)
    × Taken (of_sizes 8000 8000 80000 1 8000 100 101)
parameters_are_taken = (refl, refl, refl, refl)

-- One below the minimum and one above the maximum are rejected.
pub parameters_are_refused :
    Refused (of_sizes 0 1 1 1 1 1 1) CoreSize
    × Refused (of_sizes 1048577 1 1 1 1 1 1) CoreSize
    × Refused (of_sizes 8 0 1 1 1 1 1) Processes
    × Refused (of_sizes 8 65537 1 1 1 1 1) Processes
    × Refused (of_sizes 8 1 0 1 1 1 1) Cycles
    × Refused (of_sizes 8 1 10000001 1 1 1 1) Cycles
    × Refused (of_sizes 8 1 1 0 8 1 1) Limit
    × Refused (of_sizes 8 1 1 9 8 1 1) Limit
    × Refused (of_sizes 8 1 1 8 0 1 1) Limit
    × Refused (of_sizes 8 1 1 8 9 1 1) Limit
    × Refused (of_sizes 8 1 1 8 8 0 1) Length
    × Refused (of_sizes 8 1 1 8 8 9 9) Length
    × Refused (of_sizes 8 1 1 8 8 3 2) Distance
    × Refused (of_sizes 8 1 1 8 8 3 9) Distance
parameters_are_refused = (refl, refl, refl, refl, refl, refl, refl, refl, refl, refl, refl, refl, refl, refl)

-- Parameters are accepted if they are in their ranges.
pub parameters_in_range : (p : Parameters) → AreInRange p → Taken p
parameters_in_range p is = rw (
  le-leb 1 p.core_size is.core_least,
  le-leb p.core_size max_core_size is.core_most,
  le-leb 1 p.processes is.processes_least,
  le-leb p.processes max_processes is.processes_most,
  le-leb 1 p.cycles is.cycles_least,
  le-leb p.cycles max_cycles is.cycles_most,
  le-leb 1 p.read_limit is.read_least,
  le-leb p.read_limit p.core_size is.read_most,
  le-leb 1 p.write_limit is.write_least,
  le-leb p.write_limit p.core_size is.write_most,
  le-leb 1 p.max_length is.length_least,
  le-leb p.max_length p.core_size is.length_most,
  le-leb p.max_length p.distance is.distance_least,
  le-leb p.distance p.core_size is.distance_most,
) refl

-- If several parameters are out of range, the error belongs to the first of them.
pub first_fault_of_parameters :
    Refused (of_sizes 0 0 0 0 0 0 0) CoreSize
    × Refused (of_sizes 8 0 0 0 0 0 0) Processes
    × Refused (of_sizes 8 1 0 0 0 0 0) Cycles
    × Refused (of_sizes 8 1 1 0 0 0 9) Limit
    × Refused (of_sizes 8 1 1 8 8 0 9) Length
first_fault_of_parameters = (refl, refl, refl, refl, refl)

abbrev program : List Cell → ℕ → WarriorValue
program cells start = record { name = []; author = []; cells = cells; start = start }

-- A warrior has at least one cell, and starts at one of its cells.
pub programs_are_checked :
    (checked_warrior (program (nop ∷ nop ∷ []) 1) ≡ Ok (program (nop ∷ nop ∷ []) 1))
    × (checked_warrior (program (nop ∷ nop ∷ []) 2) ≡ Err warrior.BadOrigin)
    × (checked_warrior (program [] 0) ≡ Err warrior.Empty)
    × (checked_warrior (program [] 1) ≡ Err warrior.Empty)
programs_are_checked = (refl, refl, refl, refl)

-- The cell of an empty core, and its two fields.
pub cell_of_an_empty_core :
    (empty_cell ≡ cell op.Dat modifier.F Direct 0 Direct 0)
    × (with_field ANumber 3 empty_cell ≡ cell op.Dat modifier.F Direct 3 Direct 0)
    × (with_field BNumber 3 empty_cell ≡ cell op.Dat modifier.F Direct 0 Direct 3)
    × (field_of ANumber (cell op.Dat modifier.F Direct 1 Direct 2) ≡ 1)
    × (field_of BNumber (cell op.Dat modifier.F Direct 1 Direct 2) ≡ 2)
cell_of_an_empty_core = (refl, refl, refl, refl, refl)
