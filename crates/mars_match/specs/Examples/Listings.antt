-- Examples: the text of a table.
use Rattle.std.specs.Prelude.{◌≡◌, ◌≤◌, ℕ, ℤ, pos, negsuc, List, [], ◌∷◌, ◌++◌, true, false, codes, length, refl}
use Rattle.std.specs.Fmt.{digits}
use Rattle.mars_match.specs.Tables.{IsRow, RowValue}
use Rattle.mars_match.specs.Results.{row_line, results_text}

abbrev pub row_of : List ℕ → List ℕ → ℤ → ℕ → ℕ → ℕ → RowValue
row_of name author points wins ties losses = record { name = name; author = author; points = points; wins = wins; ties = ties; losses = losses }

abbrev pub imp : RowValue
imp = row_of (codes "Imp") (codes "Dewdney") (pos 4) 1 1 0

abbrev pub stay : RowValue
stay = row_of (codes "Stay") (codes "Anonymous") (pos 4) 1 1 0

abbrev pub dead : RowValue
dead = row_of (codes "Dead") (codes "Anonymous") (pos 0) 0 0 2

pub in_load_order : results_text (dead ∷ imp ∷ stay ∷ []) false ≡
    codes "  points   wins   ties losses  warrior\n"
    ++ codes "       0      0      0      2  Dead by Anonymous\n"
    ++ codes "       4      1      1      0  Imp by Dewdney\n"
    ++ codes "       4      1      1      0  Stay by Anonymous\n"
unfolding results_text row_line digits
in_load_order = refl

pub by_points : results_text (dead ∷ imp ∷ stay ∷ []) true ≡
    codes "  points   wins   ties losses  warrior\n"
    ++ codes "       4      1      1      0  Imp by Dewdney\n"
    ++ codes "       4      1      1      0  Stay by Anonymous\n"
    ++ codes "       0      0      0      2  Dead by Anonymous\n"
unfolding results_text row_line digits
by_points = refl

-- Points that are wider than their column shift the line to the right.
pub wide_points : results_text (row_of (codes "A") [] (negsuc 9223372036854775807) 1000000 0 0 ∷ []) false ≡
    codes "  points   wins   ties losses  warrior\n"
    ++ codes "-9223372036854775808 1000000      0      0  A by \n"
unfolding results_text row_line digits
wide_points = refl

-- Names and authors have at most 60 bytes.
pub names_in_rows : (row : RowValue) → IsRow row → (length row.name ≤ 60) × (length row.author ≤ 60)
names_in_rows row is = (is.name.short, is.author.short)
