-- An instruction in front of a program leaves the cells of the program unchanged.
use Rattle.std.proofs.Common.{◌≡◌, ◌≢◌, ◌∙◌, ℕ, ◌+◌, ◌==◌, pos, ℤ, Bool, true, false, cond, List, [], ◌∷◌, map, Option, Some, None, Ok, refl, ap, sym, arith, codes}
use Rattle.std.specs.Prelude.{filter, option_map, ◌-ℤ◌}
use Rattle.std.specs.List.{list_any}
use Rattle.std.specs.Str.{bytes_eq}
use Rattle.std.proofs.lemmas.Int.{ints}
use Rattle.std.proofs.lemmas.Slice.Eq.{bytes_eq-Decides}
use Rattle.redcode_text.specs.Results.{◌>>=◌}
use Rattle.redcode_text.specs.Expansion.{ProgramValue}
use Rattle.redcode_text.specs.Lines.{Line, Predefined, name_at, is_instruction, predefined_value}
use Rattle.redcode_asm.specs.Assembly.{Placed, at_line, at_token, cell_from, cell_of, cells_of, index_after, instructions, known_value, label_among, modifier_span, name_value, opcode_of, opcode_span, placed, placed_from, replaced, split_modifier, value_or}
use Rattle.redcode_asm.specs.Laws.{with_line_in_front}

-- The line `p` with an index that is 1 greater.
abbrev moved : Placed → Placed
moved p = record { index = p.index + 1; line = p.line }

abbrev moved_index : Option ℕ → Option ℕ
moved_index o = option_map (λ i. i + 1) o

-- ---- Lists

placed-moved : (names : List (List ℕ)) (index : ℕ) (ls : List Line) → placed_from names (index + 1) ls ≡ map moved (placed_from names index ls)
placed-moved names index [] = refl
placed-moved names index (l ∷ ls) =
    ap (λ i. record { index = index + 1; line = l } ∷ placed_from names i ls) (go (is_instruction names l.operation l.rest))
    ∙ ap (λ rest. record { index = index + 1; line = l } ∷ rest) (placed-moved names (index_after names index l) ls)
  where
    go : (b : Bool) → elim b as (λ _. ℕ) [ true ↦ index + 1 + 1 | false ↦ index + 1 ] ≡ elim b as (λ _. ℕ) [ true ↦ index + 1 | false ↦ index ] + 1
    go true = refl
    go false = refl

filter-moved : (names : List (List ℕ)) (all : List Placed)
    → filter (λ p. is_instruction names p.line.operation p.line.rest) (map moved all) ≡ map moved (filter (λ p. is_instruction names p.line.operation p.line.rest) all)
filter-moved names [] = refl
filter-moved names (p ∷ rest) = go (is_instruction names p.line.operation p.line.rest) (filter-moved names rest)
  where
    tested : List Placed → List Placed
    tested all = filter (λ p. is_instruction names p.line.operation p.line.rest) all

    go : (b : Bool) → tested (map moved rest) ≡ map moved (tested rest) → cond b (moved p ∷ tested (map moved rest)) (tested (map moved rest)) ≡ map moved (cond b (p ∷ tested rest) (tested rest))
    go true h = ap (λ l. moved p ∷ l) h
    go false h = h

label-moved : (all : List Placed) (n : ℕ) → label_among (map moved all) n ≡ moved_index (label_among all n)
label-moved [] n = refl
label-moved (p ∷ rest) n = go (list_any (λ m. m == n) p.line.labels) (label-moved rest n)
  where
    go : (b : Bool) → label_among (map moved rest) n ≡ moved_index (label_among rest n)
        → elim b as (λ _. Option ℕ) [ true ↦ Some (p.index + 1) | false ↦ label_among (map moved rest) n ] ≡ moved_index (elim b as (λ _. Option ℕ) [ true ↦ Some p.index | false ↦ label_among rest n ])
    go true h = refl
    go false h = h

-- ---- Names

not-equal : (a b : List ℕ) → a ≢ b → bytes_eq b a ≡ false
not-equal a b apart = go (bytes_eq b a) refl
  where
    go : (t : Bool) → bytes_eq b a ≡ t → bytes_eq b a ≡ false
    go false e = e
    go true e = absurd (apart (sym ((bytes_eq-Decides b a).0 e)))

-- The distance between two indices is unchanged if both are 1 greater.
distance-moved : (o : Option ℕ) (index : ℕ) (known : Option ℤ)
    → value_or (option_map (λ j. pos j -ℤ pos (index + 1)) (moved_index o)) known ≡ value_or (option_map (λ j. pos j -ℤ pos index) o) known
distance-moved None index known = refl
distance-moved (Some j) index known = let e : pos (j + 1) -ℤ pos (index + 1) ≡ pos j -ℤ pos index = omega (arith, ints) in ap Some e

-- ---- A program with a line in front

module _ (ps : Predefined) (s : ProgramValue) (l : Line) (unlabelled : l.labels ≡ []) (is : is_instruction s.names l.operation l.rest ≡ true) (free : (n : ℕ) → name_at s.names n ≢ codes "CURLINE") where
  abbrev front : ProgramValue
  front = with_line_in_front l s

  abbrev first : Placed
  first = record { index = 0; line = l }

  all-moved : placed front ≡ first ∷ map moved (placed s)
  all-moved =
      ap (λ b. first ∷ placed_from s.names (elim b as (λ _. ℕ) [ true ↦ 0 + 1 | false ↦ 0 ]) s.lines) is
      ∙ ap (λ rest. first ∷ rest) (placed-moved s.names 0 s.lines)

  instructions-moved : instructions front ≡ first ∷ map moved (instructions s)
  instructions-moved =
      ap (filter (λ p. is_instruction s.names p.line.operation p.line.rest)) all-moved
      ∙ ap (λ b. cond b (first ∷ filter (λ p. is_instruction s.names p.line.operation p.line.rest) (map moved (placed s))) (filter (λ p. is_instruction s.names p.line.operation p.line.rest) (map moved (placed s)))) is
      ∙ ap (λ rest. first ∷ rest) (filter-moved s.names (placed s))

  label-behind : (n : ℕ) → label_among (placed front) n ≡ moved_index (label_among (placed s) n)
  label-behind n =
      ap (λ all. label_among all n) all-moved
      ∙ ap (λ labels. elim (list_any (λ m. m == n) labels) as (λ _. Option ℕ) [ true ↦ Some 0 | false ↦ label_among (map moved (placed s)) n ]) unlabelled
      ∙ label-moved (placed s) n

  known-moved : (index n : ℕ) → known_value ps front (index + 1) n ≡ known_value ps s index n
  known-moved index n =
      let e = not-equal (name_at s.names n) (codes "CURLINE") (free n) in
      ap (λ b. elim b as (λ _. Option ℤ) [ true ↦ Some (pos (index + 1)) | false ↦ predefined_value ps (name_at s.names n) ]) e
      ∙ sym (ap (λ b. elim b as (λ _. Option ℤ) [ true ↦ Some (pos index) | false ↦ predefined_value ps (name_at s.names n) ]) e)

  value-moved : (index n : ℕ) → name_value ps front (index + 1) (index + 1) n ≡ name_value ps s index index n
  value-moved index n =
      (λ i. value_or (option_map (λ j. pos j -ℤ pos (index + 1)) (label-behind n i)) (known-moved index n i))
      ∙ distance-moved (label_among (placed s) n) index (known_value ps s index n)

  cell-moved : (m : ℕ) (p : Placed) → cell_of ps m front (moved p) ≡ cell_of ps m s p
  cell-moved m p = λ i.
      at_token (opcode_span p.line) (opcode_of s.names p.line.operation) >>= λ o.
      at_token (modifier_span p.line.rest) (split_modifier s.names p.line.rest) >>= λ rest.
      replaced s rest.1 >>= cell_from m (λ n. value-moved p.index n i) p.line.operation_span o rest.0

  cells-moved : (m : ℕ) (all : List Placed) → cells_of ps m front (map moved all) ≡ cells_of ps m s all
  cells-moved m [] = refl
  cells-moved m (p ∷ rest) = λ i. at_line p.line.number (cell-moved m p i) >>= λ c. cells-moved m rest i >>= λ cs. Ok (c ∷ cs)

  pub nothing-moved : (m : ℕ) → cells_of ps m front (instructions front) ≡ (at_line l.number (cell_of ps m front first) >>= λ c. cells_of ps m s (instructions s) >>= λ cs. Ok (c ∷ cs))
  nothing-moved m = ap (cells_of ps m front) instructions-moved ∙ (λ i. at_line l.number (cell_of ps m front first) >>= λ c. cells-moved m (instructions s) i >>= λ cs. Ok (c ∷ cs))
