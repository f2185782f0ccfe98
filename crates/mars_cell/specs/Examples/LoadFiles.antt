-- Examples: load files that are read and written, their errors and lines, and texts that are cut short.
use Rattle.std.specs.Prelude.{◌≡◌, ◌<◌, ℕ, zero, suc, List, [], ◌∷◌, ◌++◌, replicate, Some, Ok, Err, codes, refl, slice_index_or}
use Rattle.std.proofs.Common.{ap, arith}
use Rattle.std.specs.Fmt.{digits}
use Rattle.mars_cell.specs.declared.instruction.Op.TheVariants as op
use Rattle.mars_cell.specs.declared.instruction.Modifier.TheVariants as modifier
use Rattle.mars_cell.specs.declared.instruction.Mode.TheVariants.{Immediate, Direct, BIndirect}
use Rattle.mars_cell.specs.declared.instruction.Cell.{Cell}
use Rattle.mars_cell.specs.declared.fault.LoadFault.TheVariants as fault
use Rattle.mars_cell.specs.Grammar.{cell_of, comma_at, default_modifier, mode_at, modifier_at, number_at, op_at, operand_at, suffix_at}
use Rattle.mars_cell.specs.Header.{header_of, name_of, size_of, has_version}
use Rattle.mars_cell.specs.Load.{body, end_of, lines_of, load, only_number, statement_of, statements}
use Rattle.mars_cell.specs.Numbers.{nearest, parse_digits, parse_number, split_sign}
use Rattle.mars_cell.specs.Output.{CutShort}
use Rattle.mars_cell.specs.Parts.{begins_word, joins, parts}
use Rattle.mars_cell.specs.Warriors.{WarriorValue}
use Rattle.mars_cell.specs.Words.{mode_of, modifier_of, op_of}
use Rattle.mars_cell.specs.Written.{load_text}
use Rattle.mars_cell.specs.Examples.Cells.{cell, nop}

-- A warrior that is read from a file of version 1, which has no names.
abbrev nameless : List Cell → ℕ → WarriorValue
nameless cells start = record { name = codes "Unknown"; author = codes "Anonymous"; cells = cells; start = start }

abbrev imp_by : List ℕ → List ℕ → ℕ → WarriorValue
imp_by name author b = record { name = name; author = author; cells = cell op.Mov modifier.I Direct 0 Direct b ∷ []; start = 0 }

-- The last ORG gives the start. Reading stops at END, whose number gives the start only without ORG. Comments are ignored.
pub files_are_read :
    (load 8 8 (codes "ORG 0\nMOV.I $0, $7\n") ≡ Ok (nameless (cell op.Mov modifier.I Direct 0 Direct 7 ∷ []) 0))
    × (load 8 8 (codes "ORG 0\nORG 1\nNOP 0, 0\nNOP 0, 0\n") ≡ Ok (nameless (nop ∷ nop ∷ []) 1))
    × (load 8 8 (codes "NOP 0, 0\nend\nthis is prose\n") ≡ Ok (nameless (nop ∷ []) 0))
    × (load 8 8 (codes "NOP 0, 0\nNOP 0, 0\nEND 1") ≡ Ok (nameless (nop ∷ nop ∷ []) 1))
    × (load 8 8 (codes "org 0\nNOP 0, 0\nEND 9") ≡ Ok (nameless (nop ∷ []) 0))
    × (load 8 8 (codes "ORG 9\nNOP 0, 0\nORG -0\n") ≡ Ok (nameless (nop ∷ []) 0))
    × (load 9 8 (codes "MOV.I 0, 7999") ≡ Ok (nameless (cell op.Mov modifier.I Direct 0 Direct 7 ∷ []) 0))
    × (load 8 2 (codes "NOP 0, 0\nNOP 0, 0") ≡ Ok (nameless (nop ∷ nop ∷ []) 0))
    × (load 8 8 (codes "; a comment\n\n  \nNOP 0, 0 ; another ; one\r\n") ≡ Ok (nameless (nop ∷ []) 0))
    × (load 8 8 (codes ";load it\nNOP 0, 0") ≡ Ok (nameless (nop ∷ []) 0))
unfolding parts joins begins_word cell_of op_at suffix_at modifier_at mode_at number_at operand_at comma_at op_of modifier_of mode_of parse_number parse_digits split_sign nearest default_modifier load has_version body statements lines_of statement_of only_number end_of
files_are_read = (refl, refl, refl, refl, refl, refl, refl, refl, refl, refl)

-- The first invalid line is reported before every other error, even if it comes after a cell too many.
pub first_fault :
    (load 8 8 (codes "MOV 0") ≡ Err (fault.Syntax 1))
    × (load 8 8 (codes "NOP 0, 0\nORG0\n") ≡ Err (fault.Syntax 2))
    × (load 8 8 (codes "NOP 0, 0\nMOV0,1\n") ≡ Err (fault.Syntax 2))
    × (load 8 8 (codes "NOP 0, 0\nMOV.I0,1\n") ≡ Err (fault.Syntax 2))
    × (load 8 8 (codes "NOP 0, 0\nORG\n") ≡ Err (fault.Syntax 2))
    × (load 8 8 (codes "NOP 0, 0\nORG 1 2\n") ≡ Err (fault.Syntax 2))
    × (load 8 8 (codes "NOP 0, 0\nORG - 1\n") ≡ Err (fault.Syntax 2))
    × (load 8 8 (codes "NOP 0, 0\nEND 1 2\n") ≡ Err (fault.Syntax 2))
    × (load 8 8 (codes "NOP 0, 0\nORG 1234567890123456789\n") ≡ Err (fault.Syntax 2))
    × (load 8 8 (codes "NOP 0, 0\nx\n") ≡ Err (fault.Syntax 2))
    × (load 8 1 (codes "NOP 0, 0\nNOP 0, 0\n\nMOV 0\nMOV 1") ≡ Err (fault.Syntax 4))
    × (load 8 1 (codes "NOP 0, 0\nNOP 0, 0\nORG 9") ≡ Err fault.TooLong)
    × (load 8 8 (codes "") ≡ Err fault.Empty)
    × (load 8 8 (codes "ORG 5\n") ≡ Err fault.Empty)
    × (load 8 8 (codes "END\nNOP 0, 0") ≡ Err fault.Empty)
    × (load 8 8 (codes "ORG 1\nNOP 0, 0") ≡ Err fault.BadOrigin)
    × (load 8 8 (codes "ORG-1\nNOP 0, 0") ≡ Err fault.BadOrigin)
    × (load 8 8 (codes "NOP 0, 0\nEND 1") ≡ Err fault.BadOrigin)
unfolding parts joins begins_word cell_of op_at suffix_at modifier_at mode_at number_at operand_at comma_at op_of modifier_of mode_of parse_number parse_digits split_sign nearest default_modifier load has_version body statements lines_of statement_of only_number end_of
first_fault = (refl, refl, refl, refl, refl, refl, refl, refl, refl, refl, refl, refl, refl, refl, refl, refl, refl, refl)

-- A file of version 2 has names, which may contain spaces and `;`, and its numbers have the values that they had in its own core.
pub files_keep_names :
    (load 8000 8 (codes ";load 2 8\n;name Imp\n;author Dewdney\nORG 0\nMOV.I $0, $7\n") ≡ Ok (imp_by (codes "Imp") (codes "Dewdney") 7999))
    × (load 8000 8 (codes "ORG 0\nMOV.I $0, $7\n") ≡ Ok (imp_by (codes "Unknown") (codes "Anonymous") 7))
    × (load 8000 8 (codes ";load 2 8000\n;name Imp\n;author Dewdney\nMOV 0, 7") ≡ Ok (imp_by (codes "Imp") (codes "Dewdney") 7))
    × (load 5 5 (codes ";load 2 8000\n;name  two ; imps \n;author \nMOV 0, -1") ≡ Ok (imp_by (codes " two ; imps ") [] 4))
    × (load 8000 8 (codes ";load 2 1048576\n;name \n;author ;\nMOV 0, 1048575") ≡ Ok (imp_by [] (codes ";") 7999))
    × (load 8 8 (codes ";load it\nNOP 0, 0") ≡ Ok (nameless (nop ∷ []) 0))
    × (load 8 8 (codes " ;load 2 8\nNOP 0, 0") ≡ Ok (nameless (nop ∷ []) 0))
    × (load 8 8 (codes ";LOAD 3 8\nNOP 0, 0") ≡ Ok (nameless (nop ∷ []) 0))
unfolding parts joins begins_word cell_of op_at suffix_at modifier_at mode_at number_at operand_at comma_at op_of modifier_of mode_of parse_number parse_digits split_sign nearest default_modifier load has_version header_of size_of name_of body statements lines_of statement_of only_number end_of
files_keep_names = (refl, refl, refl, refl, refl, refl, refl, refl)

-- An error of the version comes first, then the first invalid line.
pub first_fault_of_a_head :
    (load 8000 8 (codes ";load 3 8000\nNOP 0, 0") ≡ Err fault.Version)
    × (load 8000 8 (codes ";load 1") ≡ Err fault.Version)
    × (load 8000 8 (codes ";load 2") ≡ Err fault.Version)
    × (load 8000 8 (codes ";load 2 ") ≡ Err fault.Version)
    × (load 8000 8 (codes ";load 20 8") ≡ Err fault.Version)
    × (load 8000 8 (codes ";load 2 08\nx") ≡ Err fault.Version)
    × (load 8000 8 (codes ";load 2 0\nx") ≡ Err fault.Version)
    × (load 8000 8 (codes ";load 2 1048577\nx") ≡ Err fault.Version)
    × (load 8000 8 (codes ";load 2 8 \nx") ≡ Err fault.Version)
    × (load 8000 8 (codes ";load 2 +8\nx") ≡ Err fault.Version)
    × (load 8000 8 (codes ";load 2 8\r\nx") ≡ Err fault.Version)
    × (load 8000 8 (codes ";load 2 8") ≡ Err (fault.Syntax 2))
    × (load 8000 8 (codes ";load 2 8\n;author Dewdney\nORG 0\nMOV.I $0, $7") ≡ Err (fault.Syntax 2))
    × (load 8000 8 (codes ";load 2 8\n;Name Imp\n;author Dewdney\nx") ≡ Err (fault.Syntax 2))
    × (load 8000 8 (codes ";load 2 8\n;name Imp\r\n;author Dewdney\nx") ≡ Err (fault.Syntax 2))
    × (load 8000 8 (codes ";load 2 8\n;name Imp") ≡ Err (fault.Syntax 3))
    × (load 8000 8 (codes ";load 2 8\n;name Imp\n;author\nx") ≡ Err (fault.Syntax 3))
    × (load 8000 8 (codes ";load 2 8\n;name Imp\n;author Dewdney\n\nx") ≡ Err (fault.Syntax 5))
    × (load 8000 8 (codes ";load 2 8\n;name Imp\n;author Dewdney") ≡ Err fault.Empty)
    × (load 8000 8 (codes ";load 2 8\n;name Imp\n;author Dewdney\nORG -1\nNOP 0, 0") ≡ Err fault.BadOrigin)
unfolding parts joins begins_word cell_of op_at suffix_at modifier_at mode_at number_at operand_at comma_at op_of modifier_of mode_of parse_number parse_digits split_sign nearest default_modifier load has_version header_of size_of name_of body statements lines_of statement_of only_number end_of
first_fault_of_a_head = (refl, refl, refl, refl, refl, refl, refl, refl, refl, refl, refl, refl, refl, refl, refl, refl, refl, refl, refl, refl)

-- A name has at most 60 bytes, from the space to the tilde.
pub long_names :
    (load 8000 8 (codes ";load 2 8000\n;name ~\n;author \nMOV 0, 1") ≡ Ok (imp_by (codes "~") [] 1))
    × (load 8000 8 (codes ";load 2 8000\n;name " ++ 127 ∷ codes "\n;author \nMOV 0, 1") ≡ Err (fault.Syntax 2))
    × (load 8000 8 (codes ";load 2 8000\n;name " ++ replicate 60 120 ++ codes "\n;author \nMOV 0, 1") ≡ Ok (imp_by (replicate 60 120) [] 1))
    × (load 8000 8 (codes ";load 2 8000\n;name " ++ replicate 61 120 ++ codes "\n;author \nMOV 0, 1") ≡ Err (fault.Syntax 2))
    × (load 8000 8 (codes ";load 2 8000\n;name x\n;author " ++ replicate 61 120 ++ codes "\nMOV 0, 1") ≡ Err (fault.Syntax 3))
unfolding parts joins begins_word cell_of op_at suffix_at modifier_at mode_at number_at operand_at comma_at op_of modifier_of mode_of parse_number parse_digits split_sign nearest default_modifier load has_version header_of size_of name_of body statements lines_of statement_of only_number end_of
long_names = (refl, refl, refl, refl, refl)

-- The last line may have no LF; an LF at the end begins no other line.
pub lines_are_parted :
    (lines_of (codes "step\n\nundo") ≡ codes "step" ∷ [] ∷ codes "undo" ∷ [])
    × (lines_of (codes "step\n") ≡ codes "step" ∷ [])
    × (lines_of [] ≡ [])
unfolding lines_of
lines_are_parted = (refl, refl, refl)

-- The load file of a warrior that bombs the core.
pub bomber_is_written : load_text 8000 (record {
  name = codes "Bomber ;";
  author = [];
  start = 0;
  cells =
      cell op.Add modifier.Ab Immediate 4 Direct 3
      ∷ cell op.Mov modifier.I Direct 2 BIndirect 2
      ∷ cell op.Jmp modifier.B Direct 7998 Direct 0
      ∷ cell op.Dat modifier.F Immediate 0 Immediate 0
      ∷ [];
}) ≡ codes ";load 2 8000\n;name Bomber ;\n;author \nORG 0\nADD.AB #4, $3\nMOV.I $2, @2\nJMP.B $-2, $0\nDAT.F #0, #0\n"
unfolding digits
bomber_is_written = refl

-- If a text is cut short, a proper prefix of it was written: neither the whole text nor other bytes.
pub texts_that_are_not_cut_short : (CutShort (Some []) (Some (65 ∷ [])) (65 ∷ []) → ⊥) × (CutShort (Some []) (Some (66 ∷ [])) (65 ∷ 65 ∷ []) → ⊥)
texts_that_are_not_cut_short = (whole, other)
  where
    whole : CutShort (Some []) (Some (65 ∷ [])) (65 ∷ []) → ⊥
    whole (zero, inside, is) = let e : 65 ≡ 0 = ap (λ bytes. slice_index_or bytes 0 0) is in omega (arith, e)
    whole (suc n, inside, is) = let e : suc n < 1 = inside in omega (arith, e)

    other : CutShort (Some []) (Some (66 ∷ [])) (65 ∷ 65 ∷ []) → ⊥
    other (zero, inside, is) = let e : 66 ≡ 0 = ap (λ bytes. slice_index_or bytes 0 0) is in omega (arith, e)
    other (suc n, inside, is) = let e : 66 ≡ 65 = ap (λ bytes. slice_index_or bytes 0 0) is in omega (arith, e)
