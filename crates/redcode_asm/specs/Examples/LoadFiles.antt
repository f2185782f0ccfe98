-- Examples: load files of sources.
use Rattle.std.specs.Prelude.{◌≡◌, Some, Ok, Err, codes, refl}
use Rattle.std.specs.Fmt.{digits}
use Rattle.mars_cell.specs.Grammar.{default_modifier}
use Rattle.mars_cell.specs.Words.{op_of, modifier_of}
use Rattle.redcode_text.specs.Expansion.{expansion}
use Rattle.redcode_text.specs.Expression.{value_of, tree_within}
use Rattle.redcode_asm.specs.declared.fault.AsmProblem.TheVariants.{Operation}
use Rattle.redcode_asm.specs.Assembly.{assembly}
use Rattle.redcode_asm.specs.LoadFiles.{assembled_load}
use Rattle.redcode_asm.specs.Examples.Warriors.{parameters}

-- The load file has the name and the author that the source gives, or else Unknown and Anonymous.
pub sources_as_load_files :
    (assembled_load (parameters 8000) 1 2 (codes ";name Dwarf\n;author A. K. Dewdney\nADD #4, 3\nMOV 2, @2\nJMP -2\nDAT #0, #0\n")
    ≡ Ok (codes ";load 2 8000\n;name Dwarf\n;author A. K. Dewdney\nORG 0\nADD.AB #4, $3\nMOV.I $2, @2\nJMP.B $-2, $0\nDAT.F #0, #0\n"))
    × (assembled_load (parameters 80) 1 2 (codes "NOP\nNOP ROUNDS, WARRIORS\nEND 1") ≡ Ok (codes ";load 2 80\n;name Unknown\n;author Anonymous\nORG 1\nNOP.F $0, $0\nNOP.F $1, $2\n"))
    × (assembled_load (parameters 80) 1 2 (codes "NOP\nSTP 1, 2") ≡ Err (record { line = 2; problem = Operation; token = Some (record { from = 4; to = 7 }) }))
unfolding assembly expansion value_of tree_within digits default_modifier op_of modifier_of
sources_as_load_files = (refl, refl, refl)
