-- The load file of a source.
use Rattle.std.specs.Prelude.{ℕ, List, Result, Ok}
use Rattle.redcode_text.specs.Results.{◌>>=◌}
use Rattle.mars_cell.specs.Parameters.{Parameters}
use Rattle.mars_cell.specs.Written.{load_text}
use Rattle.redcode_asm.specs.declared.fault.AsmFault.{AsmFault}
use Rattle.redcode_asm.specs.Assembly.{assembly}

-- The load file of the warrior that a source is assembled to, or the first error of the source.
abbrev pub assembled_load : Parameters → ℕ → ℕ → List ℕ → Result (List ℕ) AsmFault
assembled_load p rounds warriors source = assembly p rounds warriors source >>= λ w. Ok (load_text p.core_size w)
