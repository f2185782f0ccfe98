-- The instructions that are left if the first ones are dropped, line by line.
use Rattle.std.proofs.Common.{◌≡◌, ◌∙◌, ℕ, suc, ◌+◌, ◌-◌, ◌<◌, Bool, true, false, if◌then◌else◌, List, ◌∷◌, drop, filter, length, get_or, map, ap, sym, refl, arith, add-one}
use Rattle.std.proofs.Math.Seq.{drop-cons}
use Rattle.redcode_text.specs.declared.program.Line as code
use Rattle.redcode_text.specs.Views.{line_of}
use Rattle.redcode_text.specs.Lines.{Line, is_instruction}
use Rattle.redcode_asm.specs.Assembly.{Placed, placed_from}

-- The instructions among `ls` without the first `dropped` of them.
abbrev pub left_among : List (List ℕ) → ℕ → ℕ → List Line → List Placed
left_among names dropped index ls = drop dropped (filter (λ p. is_instruction names p.line.operation p.line.rest) (placed_from names index ls))

-- The instructions that are left from the line `l` on, which is an instruction if `b` is true.
abbrev at_line_by : Bool → List (List ℕ) → ℕ → ℕ → Line → List Line → List Placed
at_line_by b names dropped index l ls =
    drop dropped (if b then record { index = index; line = l } ∷ left_among names 0 (elim b as (λ _. ℕ) [ true ↦ index + 1 | false ↦ index ]) ls
    else left_among names 0 (elim b as (λ _. ℕ) [ true ↦ index + 1 | false ↦ index ]) ls)

by-line : (names : List (List ℕ)) (dropped index : ℕ) (l : Line) (ls : List Line) (b : Bool) → is_instruction names l.operation l.rest ≡ b
    → left_among names dropped index (l ∷ ls) ≡ at_line_by b names dropped index l ls
by-line names dropped index l ls b e = ap (λ b. at_line_by b names dropped index l ls) e

one-less : (names : List (List ℕ)) (longest index : ℕ) (l : Line) (ls : List Line) → index < longest → at_line_by true names (longest - index) index l ls ≡ left_among names (longest - (index + 1)) (index + 1) ls
one-less names longest index l ls inside = let e : longest - index ≡ suc (longest - (index + 1)) = omega arith in rw e refl

pub lines-from : (xs : List code.Line) (i : ℕ) (x : code.Line) → i < length xs → x ≡ get_or xs i x → map line_of (drop i xs) ≡ line_of x ∷ map line_of (drop (i + 1) xs)
lines-from xs i x inside at = rw (drop-cons xs i x inside, add-one i) (ap (λ y. line_of y ∷ map line_of (drop (suc i) xs)) (sym at))

-- Passing an instruction leaves the instructions beyond the maximum length unchanged.
pub past-instruction : (names : List (List ℕ)) (longest index next i : ℕ) (xs : List code.Line) (x : code.Line) → i < length xs → x ≡ get_or xs i x → next ≡ index + 1 → index < longest
    → is_instruction names x.operation x.rest.items ≡ true
    → left_among names (longest - next) next (map line_of (drop (i + 1) xs)) ≡ left_among names (longest - index) index (map line_of (drop i xs))
past-instruction names longest index next i xs x inside at more below is =
    ap (λ n. left_among names (longest - n) n (map line_of (drop (i + 1) xs))) more
    ∙ sym (ap (left_among names (longest - index) index) (lines-from xs i x inside at)
    ∙ by-line names (longest - index) index (line_of x) (map line_of (drop (i + 1) xs)) true is ∙ one-less names longest index (line_of x) (map line_of (drop (i + 1) xs)) below)

-- Passing another line leaves the instructions beyond the maximum length unchanged.
pub past-other : (names : List (List ℕ)) (longest index next i : ℕ) (xs : List code.Line) (x : code.Line) → i < length xs → x ≡ get_or xs i x → next ≡ index
    → is_instruction names x.operation x.rest.items ≡ false
    → left_among names (longest - next) next (map line_of (drop (i + 1) xs)) ≡ left_among names (longest - index) index (map line_of (drop i xs))
past-other names longest index next i xs x inside at more is =
    ap (λ n. left_among names (longest - n) n (map line_of (drop (i + 1) xs))) more
    ∙ sym (ap (left_among names (longest - index) index) (lines-from xs i x inside at) ∙ by-line names (longest - index) index (line_of x) (map line_of (drop (i + 1) xs)) false is)
